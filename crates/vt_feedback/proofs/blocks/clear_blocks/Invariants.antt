use Rattle.std.proofs.Common.{◌≡◌, ℕ, ◌*◌, ◌<◌, ◌≤◌, slice_index}
use Rattle.vt_feedback.proofs.blocks.clear_blocks.Given as goal

-- the blocks so far are cleared
abbrev pub invariant-loop-block : goal.invariant-loop-block
invariant-loop-block l = record {
  none : (p : ℕ) → p < l.block * 64 → slice_index l.counts p ≡ 0;
  kept : (p : ℕ) → l.block * 64 ≤ p → slice_index l.counts p ≡ slice_index l.fn.counts p;
}
