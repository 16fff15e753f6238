use Rattle.std.proofs.Common.{◌≡◌, ℕ, ◌+◌, ◌*◌, ◌<◌, ◌≤◌, false, length, slice_index}
use Rattle.std.specs.Prelude.{slice_index_or}
use Rattle.vt_feedback.proofs.blocks.add_blocks.Given as goal

-- the blocks so far are added
abbrev pub invariant-loop-block : goal.invariant-loop-block
invariant-loop-block l = record {
  added : (p : ℕ) → p < l.block * 64 → slice_index l.sums p ≡ slice_index l.fn.sums p + slice_index l.counts p;
  kept : (p : ℕ) → l.block * 64 ≤ p → slice_index l.sums p ≡ slice_index l.fn.sums p;
  low : (b p : ℕ) → b < length l.marks → slice_index_or l.marks b false ≡ false → b * 64 ≤ p → p < b * 64 + 64 → slice_index l.sums p ≡ 0;
}
