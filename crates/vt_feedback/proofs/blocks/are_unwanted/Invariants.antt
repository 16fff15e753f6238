use Rattle.std.proofs.Common.{ℕ, ◌<◌, ◌≤◌, slice_index}
use Rattle.vt_feedback.proofs.blocks.are_unwanted.Given as goal

-- what was put together so far is no less than each of its counts
abbrev pub invariant-loop-i : goal.invariant-loop-i
invariant-loop-i l = (p : ℕ) → l.first ≤ p → p < l.i → slice_index l.counts p ≤ l.pixels
