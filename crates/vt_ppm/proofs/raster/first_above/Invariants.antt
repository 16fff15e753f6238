use Rattle.vt_ppm.specs.Format.{AreUpTo}
use Rattle.vt_ppm.proofs.raster.first_above.Given as goal

abbrev pub invariant-loop-i : goal.invariant-loop-i
invariant-loop-i g l = AreUpTo g.row.DEPTH l.maximum l.i l.raster
