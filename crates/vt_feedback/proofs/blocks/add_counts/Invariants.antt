use Rattle.std.proofs.Common.{◌≡◌, ℕ, ◌+◌, ◌<◌, ◌≤◌, slice_index}
use Rattle.vt_feedback.proofs.blocks.add_counts.Given as goal

abbrev pub invariant-loop-i : goal.invariant-loop-i
invariant-loop-i l = record {
  low : l.first ≤ l.i;
  added : (p : ℕ) → l.first ≤ p → p < l.i → slice_index l.sums p ≡ slice_index l.fn.sums p + slice_index l.counts p;
  below : (p : ℕ) → p < l.first → slice_index l.sums p ≡ slice_index l.fn.sums p;
  above : (p : ℕ) → l.i ≤ p → slice_index l.sums p ≡ slice_index l.fn.sums p;
}
