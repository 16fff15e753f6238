-- The box-filtered mip chain, channel by channel: a texel is (a+b+c+d+2) div 4 of four texels with clamped coordinates.
use Rattle.std.specs.Prelude.{◌≡◌, ℕ, zero, suc, ◌+◌, ◌*◌, ◌<◌, List, length}
use Rattle.vt_ppm.specs.Sides.{side, level_count}
use Rattle.vt_ppm.specs.Depths.{texel_length, word_of, red_of, green_of, blue_of, word_bytes, texel_bytes}
use Rattle.vt_ppm.specs.Texels.{Source}
use Rattle.vt_ppm.specs.Image.{ImageView, texel_of}
use Rattle.vt_box_filter.specs.Boxes.{box, clamped}

-- the box filter of samples in w columns and h rows, at a column and a row of the half
abbrev pub halved : (ℕ → ℕ → ℕ) → ℕ → ℕ → ℕ → ℕ → ℕ
halved s w h x y =
    box (s (clamped w (2 * x)) (clamped h (2 * y))) (s (clamped w (2 * x + 1)) (clamped h (2 * y)))
    (s (clamped w (2 * x)) (clamped h (2 * y + 1))) (s (clamped w (2 * x + 1)) (clamped h (2 * y + 1)))

-- the box filter of texel words at a depth, each channel by itself
unfoldable pub halved_word : ℕ → (ℕ → ℕ → ℕ) → ℕ → ℕ → ℕ → ℕ → ℕ
halved_word d t w h x y =
    word_of d (halved (λ i j. red_of d (t i j)) w h x y) (halved (λ i j. green_of d (t i j)) w h x y)
    (halved (λ i j. blue_of d (t i j)) w h x y)

-- the mip chain of a texture t of depth d, w columns and h rows: level 0 is the texture, and each next level is the one before
-- it halved
unfoldable pub chain : ℕ → (ℕ → ℕ → ℕ) → ℕ → ℕ → Source
chain d t w h zero x y = t x y
chain d t w h (suc k) x y = halved_word d (chain d t w h k) (side w k) (side h k) x y

-- a chain as callers see it: its texture, and the tile side that says where it ends
pub record ChainView : Type 0 where
  pub base : ImageView
  pub tile : ℕ

-- the number of levels of a chain
abbrev pub chain_levels : ChainView → ℕ
chain_levels v = level_count v.base.width v.base.height v.tile

-- the number of columns of a level
abbrev pub chain_width : ChainView → ℕ → ℕ
chain_width v = side v.base.width

-- the number of rows of a level
abbrev pub chain_height : ChainView → ℕ → ℕ
chain_height v = side v.base.height

-- the texel word of a level, a column and a row, at the texture's depth
abbrev pub chain_texel : ChainView → Source
chain_texel v = chain v.base.depth (texel_of v.base) v.base.width v.base.height

-- bytes that hold the words of a row of so many columns, at a depth
pub record IsTexelRow (d : ℕ) (word_at : ℕ → ℕ) (columns : ℕ) (bytes : List ℕ) : Type 0 where
  pub full : length bytes ≡ texel_length d * columns
  pub each : (x : ℕ) → x < columns → texel_bytes d bytes x ≡ word_bytes d (word_at x)

-- bytes that hold the words of a raster of so many columns and rows, at a depth, row by row
pub record IsTexelRaster (d : ℕ) (word_at : ℕ → ℕ → ℕ) (columns rows : ℕ) (bytes : List ℕ) : Type 0 where
  pub full : length bytes ≡ texel_length d * (columns * rows)
  pub each : (x y : ℕ) → x < columns → y < rows → texel_bytes d bytes (y * columns + x) ≡ word_bytes d (word_at x y)
