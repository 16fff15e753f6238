-- The pages of a mip chain: their names, their indexes, their ancestor chains and their tiles.
use Rattle.std.specs.Prelude.{◌≡◌, ℕ, zero, suc, ◌+◌, ◌-◌, ◌*◌, ◌/◌, ◌%◌, ◌^◌, ◌<◌, ◌≤◌, min, ◌==◌, ◌&&◌, not, nat_le, if◌then◌else◌, IsTrue, Option, Some, None, List, [], ◌∷◌, map, slice_index}
use Rattle.std.specs.List.{range_with_len}
use Rattle.vt_definitions.specs.Limits.{most_tile_side, most_tiled_side, most_pages, most_levels}
use Rattle.vt_definitions.specs.Sides.{side, level_count}
use Rattle.vt_definitions.specs.Texels.{Source}
use Rattle.vt_definitions.specs.Tiles.{is_tile_side}
use Rattle.vt_pages.specs.declared.PageName.{PageName}
use Rattle.vt_pages.specs.declared.PagesError.{PagesError}
use Rattle.vt_pages.specs.declared.PagesError.TheVariants.{BadTile, BadSide, TooManyPages}
use Rattle.vt_pages.specs.Shape.{Shape, tile_exponent, is_texture_side}

-- the columns of pages of a level: its width over the tile side, rounded up (van Waveren 2012)
unfoldable pub columns_at : Shape → ℕ → ℕ
columns_at s k = (side s.width k + s.tile - 1) / s.tile

-- the rows of pages of a level: its height over the tile side, rounded up (van Waveren 2012)
unfoldable pub rows_at : Shape → ℕ → ℕ
rows_at s k = (side s.height k + s.tile - 1) / s.tile

-- how many pages the levels below a level have
unfoldable pub pages_below : Shape → ℕ → ℕ
pages_below s zero = 0
pages_below s (suc k) = pages_below s k + rows_at s k * columns_at s k

-- the number of levels: the last is the first whose two sides are at most the tile side
unfoldable pub levels_of : Shape → ℕ
levels_of s = level_count s.width s.height s.tile

-- the number of pages of the whole chain
unfoldable pub pages_of : Shape → ℕ
pages_of s = pages_below s (levels_of s)

-- the page is one of the chain's (van Waveren 2012)
pub record IsPage (s : Shape) (n : PageName) : Type 0 where
  pub level_inside : n.level < levels_of s
  pub col_inside : n.col < columns_at s n.level
  pub row_inside : n.row < rows_at s n.level

-- the index of a page: the finer levels' pages come first, and a level's go row by row
unfoldable pub index_at : Shape → ℕ → ℕ → ℕ → ℕ
index_at s k c r = pages_below s k + (r * columns_at s k + c)

-- the index of a page by its name
abbrev pub index_of : Shape → PageName → ℕ
index_of s n = index_at s n.level n.col n.row

-- the last of the levels 0 to k that has no page behind page p
unfoldable pub last_level_from : Shape → ℕ → ℕ → ℕ
last_level_from s p zero = 0
last_level_from s p (suc k) = if nat_le (pages_below s (suc k)) p then suc k else last_level_from s p k

-- the level of the page with an index
unfoldable pub level_of : Shape → ℕ → ℕ
level_of s p = last_level_from s p (levels_of s - 1)

-- the name of the page with an index
unfoldable pub name_at : Shape → ℕ → PageName
name_at s p =
    let place = p - pages_below s (level_of s p) in
    let columns = columns_at s (level_of s p) in
    record { level = level_of s p; col = place % columns; row = place / columns }

-- an index is of a page of a level of the chain
pub record IsPageAt (s : Shape) (k p : ℕ) : Type 0 where
  pub inside : p < pages_of s
  pub level : level_of s p ≡ k

-- the parent of a page: the page of the next coarser level over the same place (van Waveren 2012)
abbrev pub parent_name : PageName → PageName
parent_name n = record { level = n.level + 1; col = n.col / 2; row = n.row / 2 }

-- the index of a page's parent, which the page of the last level lacks (van Waveren 2012)
unfoldable pub parent_of : Shape → ℕ → Option ℕ
parent_of s p = if level_of s p + 1 == levels_of s then None else Some (index_of s (parent_name (name_at s p)))

-- the indexes of a page and of so many pages above it, finest first (van Waveren 2012)
unfoldable pub ancestors_from : Shape → ℕ → PageName → List ℕ
ancestors_from s zero n = index_of s n ∷ []
ancestors_from s (suc above) n = index_of s n ∷ ancestors_from s above (parent_name n)

-- the line of a page: the page and all its ancestors, finest first (van Waveren 2012)
unfoldable pub ancestors_of : Shape → ℕ → List ℕ
ancestors_of s p = ancestors_from s (levels_of s - 1 - level_of s p) (name_at s p)

-- the page of a page's line at a level (van Waveren 2012)
unfoldable pub ancestor_of : Shape → ℕ → ℕ → ℕ
ancestor_of s p k = slice_index (ancestors_of s p) (k - level_of s p)

-- the root: the one page of the last level (van Waveren 2012)
unfoldable pub root_of : Shape → ℕ
root_of s = index_at s (levels_of s - 1) 0 0

-- the page of a texel of a level (van Waveren 2012)
unfoldable pub texel_page : Shape → ℕ → ℕ → ℕ → ℕ
texel_page s k x y = index_at s k (x / s.tile) (y / s.tile)

-- how many pages the last n levels have, all where there are fewer levels; they are always mapped (Mayer 2010)
unfoldable pub pinned_of : Shape → ℕ → ℕ
pinned_of s n = pages_of s - pages_below s (levels_of s - n)

-- the word of a source at a place of a level, or at the last column or row where the place is past it
abbrev pub clamped_word : Shape → Source → ℕ → ℕ → ℕ → ℕ
clamped_word s src k x y = src k (min x (side s.width k - 1)) (min y (side s.height k - 1))

-- the tile of a page: the words of a source over its place, row by row (van Waveren 2012)
unfoldable pub tile_words : Shape → Source → ℕ → List ℕ
tile_words s src p =
    let n = name_at s p in
    map (λ i. clamped_word s src n.level (n.col * s.tile + i % s.tile) (n.row * s.tile + i / s.tile)) (range_with_len 0 (s.tile * s.tile))

-- why a shape is refused, if it is: its tile side, then its sides, then its number of pages
unfoldable pub refusal_of : Shape → Option PagesError
refusal_of s =
    if not (is_tile_side s.tile) then Some BadTile
    else (if not (is_texture_side s.width && is_texture_side s.height) then Some BadSide
    else (if nat_le (pages_of s) most_pages then None
    else Some (TooManyPages (pages_of s))))

-- the limits that each shape of a geometry keeps
pub record IsWithinLimits (s : Shape) : Type 0 where
  pub accepted : refusal_of s ≡ None
  pub tile_side : IsTrue (is_tile_side s.tile)
  pub tile_power : s.tile ≡ 2 ^ tile_exponent s.tile
  pub least_tile : 2 ≤ s.tile
  pub most_tile : s.tile ≤ most_tile_side
  pub least_width : 1 ≤ s.width
  pub most_width : s.width ≤ most_tiled_side
  pub least_height : 1 ≤ s.height
  pub most_height : s.height ≤ most_tiled_side
  pub some_level : 1 ≤ levels_of s
  pub most_levels : levels_of s ≤ most_levels
  pub some_page : 1 ≤ pages_of s
  pub most_pages : pages_of s ≤ most_pages
