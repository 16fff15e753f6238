use Rattle.std.proofs.Common.{◌≡◌, ℕ, ◌<◌, length, take}
use Rattle.std.specs.Prelude.{slice_index}
use Rattle.vt_pass_pool.specs.Placing.{counted_by}
use Rattle.vt_pass_pool.proofs.placing.count_together.Given as goal

abbrev pub invariant-loop-i : goal.invariant-loop-i
invariant-loop-i g l = record {
  same : length l.counts ≡ length l.fn.counts;
  sums : (p : ℕ) → p < length l.fn.counts → slice_index l.counts p ≡ counted_by (take l.i l.samplers) p;
}
