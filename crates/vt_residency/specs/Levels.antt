-- The levels of a mip chain as callers see them, and the page table of one.
use Rattle.std.specs.Prelude.{◌≡◌, ℕ, ◌*◌, ◌<◌, List, take, drop}
use Rattle.vt_pages.specs.Sides.{side}
use Rattle.vt_pages.specs.Shape.{Shape}
use Rattle.vt_pages.specs.Pages.{columns_at, rows_at, levels_of, pages_below}
use Rattle.vt_residency.specs.declared.levels.Level.{Level}

-- the sides of a level, its columns and rows of pages, and the index of its first page
pub record IsLevelOf (s : Shape) (k : ℕ) (l : Level) : Type 0 where
  pub width : l.width ≡ side s.width k
  pub height : l.height ≡ side s.height k
  pub columns : l.columns ≡ columns_at s k
  pub rows : l.rows ≡ rows_at s k
  pub first : l.first ≡ pages_below s k

-- a chain has a level, and that has so many pages
pub record HasLevelLength (s : Shape) (k n : ℕ) : Type 0 where
  pub inside : k < levels_of s
  pub count : n ≡ rows_at s k * columns_at s k

-- a list has the entries of the pages of a level, row by row
pub record IsLevelTable (s : Shape) (entries : List ℕ) (k : ℕ) (out : List ℕ) : Type 0 where
  pub inside : k < levels_of s
  pub table : out ≡ take (rows_at s k * columns_at s k) (drop (pages_below s k) entries)
