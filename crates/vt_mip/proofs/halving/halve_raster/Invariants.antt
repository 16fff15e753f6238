use Rattle.vt_mip.specs.Halves.{IsHalvedRaster}
use Rattle.vt_mip.proofs.halving.halve_raster.Given as goal

abbrev pub invariant-loop-y : goal.invariant-loop-y
invariant-loop-y l = IsHalvedRaster l.depth l.source l.width l.height l.y l.out
