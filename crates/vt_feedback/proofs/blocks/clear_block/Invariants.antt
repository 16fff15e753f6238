use Rattle.std.proofs.Common.{◌≡◌, ℕ, ◌<◌, ◌≤◌, slice_index}
use Rattle.vt_feedback.proofs.blocks.clear_block.Given as goal

abbrev pub invariant-loop-i : goal.invariant-loop-i
invariant-loop-i l = record {
  low : l.first ≤ l.i;
  none : (p : ℕ) → l.first ≤ p → p < l.i → slice_index l.counts p ≡ 0;
  below : (p : ℕ) → p < l.first → slice_index l.counts p ≡ slice_index l.fn.counts p;
  above : (p : ℕ) → l.i ≤ p → slice_index l.counts p ≡ slice_index l.fn.counts p;
}
