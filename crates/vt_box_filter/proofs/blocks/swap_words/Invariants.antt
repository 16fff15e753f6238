use Rattle.std.proofs.Common.{◌≡◌, ℕ, ◌+◌, ◌*◌, ◌/◌, ◌%◌, ◌<◌, ◌≤◌, slice_index}
use Rattle.vt_box_filter.proofs.blocks.swap_words.Given as goal

abbrev pub invariant-loop-i : goal.invariant-loop-i
invariant-loop-i l = record {
  swapped : (k : ℕ) → k < l.i → slice_index l.words k ≡ slice_index l.fn.words k % 256 * 256 + slice_index l.fn.words k / 256;
  kept : (k : ℕ) → l.i ≤ k → slice_index l.words k ≡ slice_index l.fn.words k;
}
