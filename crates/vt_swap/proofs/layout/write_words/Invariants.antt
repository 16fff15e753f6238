use Rattle.std.proofs.Common.{◌≡◌, ℕ, ◌<◌, length}
use Rattle.std.specs.Prelude.{slice_index}
use Rattle.vt_definitions.specs.Depths.{word_at}
use Rattle.vt_swap.proofs.layout.write_words.Given as goal

-- the words before the place are those of the tile
abbrev pub invariant-loop-i : goal.invariant-loop-i
invariant-loop-i l = record {
  count : length l.words ≡ l.fn.texels;
  each : (k : ℕ) → k < l.i → slice_index l.words k ≡ word_at l.fn.depth l.fn.tile k;
}
