use Rattle.std.proofs.Common.{◌≡◌, ℕ, ◌<◌, length, get_or}
use Rattle.vt_ppm.specs.Format.{scaled}
use Rattle.vt_ppm.proofs.raster.table_of.Given as goal

abbrev pub invariant-loop-sample : goal.invariant-loop-sample
invariant-loop-sample g l = record {
  full : length l.table ≡ 256;
  each : (k : ℕ) → k < l.sample → get_or l.table k 0 ≡ scaled 1 l.maximum k;
}
