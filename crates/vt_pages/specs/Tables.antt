-- What a geometry keeps beside its shape.
use Rattle.std.specs.Prelude.{◌≡◌, ℕ, ◌+◌, ◌<◌, ◌≤◌, ◌^◌, true, length, slice_index, map}
use Rattle.std.specs.List.{range_with_len}
use Rattle.vt_definitions.specs.Limits.{most_levels, most_tile_side}
use Rattle.vt_definitions.specs.Sides.{side}
use Rattle.vt_definitions.specs.Tiles.{is_tile_side}
use Rattle.vt_pages.specs.declared.tables.Tables.{Tables}
use Rattle.vt_pages.specs.Shape.{Shape, tile_exponent}
use Rattle.vt_pages.specs.Pages.{columns_at, rows_at, pages_below, levels_of, pages_of, IsWithinLimits}

-- a tile side is 2 to the power of the shift
pub record IsTileShift (t shift : ℕ) : Type 0 where
  pub lawful : is_tile_side t ≡ true
  pub exponent : shift ≡ tile_exponent t
  pub power : t ≡ 2 ^ shift
  pub shift_inside : shift < 8
  pub least : 2 ≤ t
  pub most : t ≤ most_tile_side

-- the tables hold each level's first page, columns, rows and sides
pub record IsTabled (s : Shape) (t : Tables) : Type 0 where
  pub first_len : length t.first ≡ most_levels
  pub columns_len : length t.columns ≡ most_levels
  pub rows_len : length t.rows ≡ most_levels
  pub widths_len : length t.widths ≡ most_levels
  pub heights_len : length t.heights ≡ most_levels
  pub first : (k : ℕ) → k < most_levels → slice_index t.first k ≡ pages_below s k
  pub columns : (k : ℕ) → k < most_levels → slice_index t.columns k ≡ columns_at s k
  pub rows : (k : ℕ) → k < most_levels → slice_index t.rows k ≡ rows_at s k
  pub widths : (k : ℕ) → k < most_levels → slice_index t.widths k ≡ side s.width k
  pub heights : (k : ℕ) → k < most_levels → slice_index t.heights k ≡ side s.height k

-- a level of the tables is the first whose two sides are at most those of a tile, or the last one
pub record IsFirstFit (t : Tables) (tile level : ℕ) : Type 0 where
  pub inside : level < most_levels
  pub before : (k : ℕ) → k < level → slice_index t.widths k ≤ tile → slice_index t.heights k ≤ tile → ⊥
  pub fits : level + 1 < most_levels → (slice_index t.widths level ≤ tile) × (slice_index t.heights level ≤ tile)

-- the tables of a shape
unfoldable pub tables_of : Shape → Tables
tables_of s = record {
  first = map (pages_below s) (range_with_len 0 most_levels);
  columns = map (columns_at s) (range_with_len 0 most_levels);
  rows = map (rows_at s) (range_with_len 0 most_levels);
  widths = map (side s.width) (range_with_len 0 most_levels);
  heights = map (side s.height) (range_with_len 0 most_levels);
}

-- a geometry's fields say what its shape says
pub record IsGeometry (s : Shape) (shift levels pages : ℕ) (t : Tables) : Type 0 where
  pub limits : IsWithinLimits s
  pub tile_is : IsTileShift s.tile shift
  pub levels_is : levels ≡ levels_of s
  pub pages_is : pages ≡ pages_of s
  pub tabled : IsTabled s t
