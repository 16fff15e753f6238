use Rattle.std.proofs.Common.{◌≡◌, ℕ, ◌≤◌}
use Rattle.vt_definitions.specs.Depths.{sample_at}
use Rattle.vt_ppm.specs.Samples.{AreScaledUpTo}
use Rattle.vt_ppm.proofs.raster.scale_samples.Given as goal

abbrev pub invariant-loop-i : goal.invariant-loop-i
invariant-loop-i g l = record {
  scaled : AreScaledUpTo g.row.DEPTH l.maximum l.i l.initial.raster l.raster;
  rest : (k : ℕ) → l.i ≤ k → sample_at g.row.DEPTH l.raster k ≡ sample_at g.row.DEPTH l.initial.raster k;
}
