-- The lines of tiles that lie side by side in memory, in texels of so many bytes.
use Rattle.std.specs.Prelude.{◌≡◌, ℕ, ◌+◌, ◌-◌, ◌*◌, ◌/◌, ◌%◌, ◌<◌, ◌≤◌, List, length, min, slice_index}
use Rattle.vt_pages.specs.Depths.{texel_length, word_bytes, bytes_from}
use Rattle.vt_pages.specs.Sides.{side}
use Rattle.vt_pages.specs.Texels.{Source}
use Rattle.vt_pages.specs.Shape.{Shape}
use Rattle.vt_pages.specs.Pages.{name_at, clamped_word}

-- texel number i of bytes, where each has so many
abbrev pub piece_at : ℕ → List ℕ → ℕ → List ℕ
piece_at size bytes i = bytes_from bytes (size * i) size

-- bytes that are a texel again and again, as often as they have room for it
pub record IsFilled (texel out : List ℕ) : Type 0 where
  pub each : (x c : ℕ) → c < length texel → length texel * x + length texel ≤ length out
      → slice_index out (length texel * x + c) ≡ slice_index texel c

-- so many texels of a row from a column on, and past the row's last column its last texel
pub record IsSpan (size : ℕ) (row : List ℕ) (columns first count : ℕ) (out : List ℕ) : Type 0 where
  pub each : (x : ℕ) → x < count → piece_at size out x ≡ piece_at size row (min (first + x) (columns - 1))

-- a texel of tiles of a side, by the tile and its place in the tile
abbrev pub tile_piece : ℕ → ℕ → List ℕ → ℕ → ℕ → List ℕ
tile_piece size side tiles t i = piece_at size tiles (t * (side * side) + i)

-- the first n of so many tiles gained a line, from a row of texels and a column of tiles on; the lines before it are as they were
pub record GainsLine (size : ℕ) (row : List ℕ) (columns side column line count n : ℕ) (before after : List ℕ) : Type 0 where
  pub here : (t x : ℕ) → t < n → x < side
      → tile_piece size side after t (line * side + x) ≡ piece_at size row (min ((column + t) * side + x) (columns - 1))
  pub kept : (t i : ℕ) → t < count → i < line * side → tile_piece size side after t i ≡ tile_piece size side before t i

-- the word of a texel of a page's tile, by its place in the tile
abbrev pub tile_word : Shape → Source → ℕ → ℕ → ℕ
tile_word s src p i =
    let n = name_at s p in
    clamped_word s src n.level (n.col * s.tile + i % s.tile) (n.row * s.tile + i / s.tile)

-- the first lines of the tiles of so many pages from one on
pub record HasLines (s : Shape) (d : ℕ) (src : Source) (first count lines : ℕ) (tiles : List ℕ) : Type 0 where
  pub each : (t i : ℕ) → t < count → i < lines * s.tile
      → tile_piece (texel_length d) s.tile tiles t i ≡ word_bytes d (tile_word s src (first + t) i)

-- how many of a tile's columns lie inside its level
abbrev pub columns_inside : Shape → ℕ → ℕ
columns_inside s p = min s.tile (side s.width (name_at s p).level - (name_at s p).col * s.tile)

-- how many of a tile's rows lie inside its level
abbrev pub rows_inside : Shape → ℕ → ℕ
rows_inside s p = min s.tile (side s.height (name_at s p).level - (name_at s p).row * s.tile)

-- how many bytes those rows of a page's level have that its row of tiles lies on
abbrev pub tile_rows_length : Shape → ℕ → ℕ → ℕ
tile_rows_length s d p = texel_length d * (side s.width (name_at s p).level * rows_inside s p)

-- the bytes of those rows hold a source's words
pub record HasTileRows (s : Shape) (d : ℕ) (src : Source) (p : ℕ) (rows : List ℕ) : Type 0 where
  pub each : (x y : ℕ) → x < side s.width (name_at s p).level → y < rows_inside s p
      → piece_at (texel_length d) rows (y * side s.width (name_at s p).level + x)
      ≡ word_bytes d (src (name_at s p).level x ((name_at s p).row * s.tile + y))
