-- The laws of page geometry: names and indexes, lines, and places.
use Rattle.std.specs.Prelude.{◌≡◌, ℕ, ◌+◌, ◌-◌, ◌*◌, ◌/◌, ◌%◌, ◌^◌, ◌<◌, Some, length, slice_index}
use Rattle.vt_definitions.specs.Sides.{side}
use Rattle.vt_definitions.specs.Texels.{Source}
use Rattle.vt_pages.specs.declared.PageName.{PageName}
use Rattle.vt_pages.specs.Shape.{Shape}
use Rattle.vt_pages.specs.Pages.{IsPage, index_of, name_at, level_of, levels_of, pages_of, parent_of, ancestors_of, ancestor_of, root_of, texel_page, tile_words}

-- names and indexes of pages undo each other
pub record AreInverse (s : Shape) : Type 0 where
  pub name : (n : PageName) → IsPage s n → (index_of s n < pages_of s) × (name_at s (index_of s n) ≡ n)
  pub index : (p : ℕ) → p < pages_of s → IsPage s (name_at s p) × (index_of s (name_at s p) ≡ p)

-- each page's line has one page a level and ends with the root (van Waveren 2012)
pub record ReachesRoot (s : Shape) (p : ℕ) : Type 0 where
  pub one_a_level : length (ancestors_of s p) + level_of s p ≡ levels_of s
  pub levels : (i : ℕ) → i < length (ancestors_of s p) → (slice_index (ancestors_of s p) i < pages_of s) × (level_of s (slice_index (ancestors_of s p) i) ≡ level_of s p + i)
  pub begins : slice_index (ancestors_of s p) 0 ≡ p
  pub ends : slice_index (ancestors_of s p) (levels_of s - 1 - level_of s p) ≡ root_of s
  pub root_is_last : root_of s + 1 ≡ pages_of s

-- a texel lies inside a level (van Waveren 2012)
abbrev pub IsInside : Shape → ℕ → ℕ → ℕ → Type 0
IsInside s k x y = (k < levels_of s) × (x < side s.width k) × (y < side s.height k)

-- a page's parent covers its place: what is under the texel one level up is the parent of what is under it (van Waveren 2012)
abbrev pub PlacesNest : Shape → Type 0
PlacesNest s = (k x y : ℕ) → k + 1 < levels_of s → IsInside s k x y
    → IsInside s (k + 1) (x / 2) (y / 2) × (parent_of s (texel_page s k x y) ≡ Some (texel_page s (k + 1) (x / 2) (y / 2)))

-- the page of a line at a coarser level is the page of the same place there (van Waveren 2012)
abbrev pub LinesFollowPlaces : Shape → Type 0
LinesFollowPlaces s = (k x y j : ℕ) → IsInside s k x y → k + j < levels_of s
    → IsInside s (k + j) (x / 2 ^ j) (y / 2 ^ j) × (ancestor_of s (texel_page s k x y) (k + j) ≡ texel_page s (k + j) (x / 2 ^ j) (y / 2 ^ j))

-- a page's tile has one word for each of its texels, and at a texel's place in the page the source's word (van Waveren 2012)
abbrev pub TilesHoldPlaces : Shape → Type 0
TilesHoldPlaces s = (src : Source) (k x y : ℕ) → IsInside s k x y
    → (length (tile_words s src (texel_page s k x y)) ≡ s.tile * s.tile)
    × (slice_index (tile_words s src (texel_page s k x y)) (y % s.tile * s.tile + x % s.tile) ≡ src k x y)
