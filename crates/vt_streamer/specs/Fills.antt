-- What filling a frame with a tile leaves.
use Rattle.std.specs.Prelude.{◌≡◌, ◌≢◌, ℕ, ◌*◌, ◌<◌, List, map, slice_index}
use Rattle.std.specs.List.{range_with_len}
use Rattle.vt_table.specs.Shape.{Shape}
use Rattle.vt_table.specs.Views.{tile_word}
use Rattle.vt_grace.specs.declared.views.WriterView.{WriterView}
use Rattle.vt_grace.specs.Places.{texel_place}

-- the texel words of a tile's bytes, row by row
abbrev pub words_in : Shape → List ℕ → List ℕ
words_in s tile = map (tile_word s tile) (range_with_len 0 (s.tile * s.tile))

-- so many words of a frame were written, each with the number for its place
pub record HasFilled (v w : WriterView) (frame : ℕ) (words : ℕ → ℕ) (count : ℕ) : Type 0 where
  pub rest : w ≡ record v { texels = w.texels }
  pub written : (place : ℕ) → place < count → slice_index w.texels (texel_place v.sizes frame place) ≡ words place
  pub others : (i : ℕ) → ((place : ℕ) → place < count → i ≢ texel_place v.sizes frame place) → slice_index w.texels i ≡ slice_index v.texels i
