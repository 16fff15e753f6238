-- How a machine draws: whether rows are dealt, how many texels a picture needs of each page, and what a pixel shows.
use Rattle.std.specs.Prelude.{ℕ, Bool, true, List}
use Rattle.vt_tiles.specs.Texels.{Source}
use Rattle.vt_pages.specs.Shape.{Shape}
use Rattle.vt_pictures.specs.Rows.{RowView}
use Rattle.vt_pictures.specs.Changes.{Table}
use Rattle.vt_tiles.specs.Format.{stored}
use Rattle.vt_pictures.specs.Paths.{PathView}
use Rattle.vt_pictures.specs.Scenes.{Scene}
use Rattle.vt_pictures.specs.declared.filters.Filter.{Ghosts as FilterMeanings}
use Rattle.vt_pictures.specs.FilterLaws.{picture_wants}

-- of a path, a picture's number, a row, a version and the row's bytes: how the row was drawn
abbrev pub RowRelation : Type 1
RowRelation = PathView → ℕ → ℕ → ℕ → List ℕ → Type 0

-- what belongs to a kind of machines: whether row y is always drawn by sampler y modulo their number; how many texels a picture needs of each
-- page; and of a store's bytes the bytes of each pixel of a picture, under a page table and without one
pub record Drawing : Type 0 where
  pub dealt : Bool
  pub needs : Scene → ℕ → ℕ → ℕ
  pub shows : Scene → List ℕ → Table → ℕ → ℕ → ℕ → List ℕ
  pub whole : Scene → List ℕ → ℕ → ℕ → ℕ → List ℕ

-- rows are dealt to the samplers, and pixels are made of a store's texels in these ways
abbrev pub drawing_by : (Shape → RowView → ℕ → ℕ → ℕ) → (Source → Scene → Table → ℕ → ℕ → ℕ → List ℕ) → (Source → Scene → ℕ → ℕ → ℕ → List ℕ)
    → Drawing
drawing_by wants under plain = record {
  dealt = true;
  needs = picture_wants wants;
  shows = λ scene b m i x y. under (stored b) scene m i x y;
  whole = λ scene b i x y. plain (stored b) scene i x y;
}

-- and as a filter makes them
abbrev pub drawing_of : {P : Type 0} → FilterMeanings P → Drawing
drawing_of f = drawing_by f.wants f.under f.plain
