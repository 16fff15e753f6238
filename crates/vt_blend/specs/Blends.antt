-- The blend of the four texels about a place.
use Rattle.std.specs.Prelude.{ℕ, ◌+◌, ◌*◌, ◌/◌, List}
use Rattle.vt_definitions.specs.Depths.{word_of, red_of, green_of, blue_of, word_bytes}
use Rattle.vt_camera.specs.Rows.{RowView}
use Rattle.vt_blend.specs.declared.corners.Corners.{Corners}
use Rattle.vt_blend.specs.declared.corners.Weights.{Weights}
use Rattle.vt_blend.specs.declared.blends.Texels.{Texels}
use Rattle.vt_blend.specs.Corners.{corners_of, weights_of}

-- the blend of four samples: what they weigh, in 1/65536, rounded to the nearest sample, a half up
abbrev pub blended : Weights → ℕ → ℕ → ℕ → ℕ → ℕ
blended w a b c e = (w.first * a + w.second * b + w.third * c + w.fourth * e + 32768) / 65536

-- the blend of the words of four texels at a depth, each channel by itself
unfoldable pub blended_word : ℕ → Weights → Texels → ℕ
blended_word d w t =
    word_of d (blended w (red_of d t.first) (red_of d t.second) (red_of d t.third) (red_of d t.fourth))
    (blended w (green_of d t.first) (green_of d t.second) (green_of d t.third) (green_of d t.fourth))
    (blended w (blue_of d t.first) (blue_of d t.second) (blue_of d t.third) (blue_of d t.fourth))

-- the words at the four corners, of the words of a level's columns and rows
abbrev pub texels_of : (ℕ → ℕ → ℕ) → Corners → Texels
texels_of word at = record {
  first = word at.column at.line;
  second = word at.next_column at.line;
  third = word at.column at.next_line;
  fourth = word at.next_column at.next_line;
}

-- the word that pixel x of a row shows of the words of its level's columns and rows, at a depth
unfoldable pub blend_of : ℕ → RowView → ℕ → (ℕ → ℕ → ℕ) → ℕ
blend_of d row x word = blended_word d (weights_of (corners_of row x)) (texels_of word (corners_of row x))

-- the bytes of that pixel
abbrev pub blend_bytes : ℕ → RowView → ℕ → (ℕ → ℕ → ℕ) → List ℕ
blend_bytes d row x word = word_bytes d (blend_of d row x word)
