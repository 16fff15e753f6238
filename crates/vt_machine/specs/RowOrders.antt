-- The order of the rows of a pass: which sampler draws which row, and that the versions of one sampler never fall.
use Rattle.std.specs.Prelude.{◌≡◌, ℕ, ◌<◌, Bool, IsTrue, Some, List, slice_get}
use Rattle.vt_pages.specs.Dealing.{sampler_of}
use Rattle.vt_pictures.specs.JournalTypes.changes.RowLine.{RowLine}
use Rattle.vt_pictures.specs.Following.{AreRowsOf}

-- row y was drawn by one of so many samplers, and where rows are dealt by the one that it is dealt to
pub record IsDrawnBy (dealt : Bool) (samplers y sampler : ℕ) : Type 0 where
  pub inside : sampler < samplers
  pub dealt_to : IsTrue dealt → sampler ≡ sampler_of y samplers

-- the rows of a pass are in order: there is one for each row of the picture, drawn at a version of the pass; the versions of one sampler
-- never fall from row to row; and each names its sampler
pub record AreRowsInOrder (dealt : Bool) (samplers height start last : ℕ) (rows : List RowLine) : Type 0 where
  pub of_picture : AreRowsOf height start last rows
  pub drawn_by : (y : ℕ) (row : RowLine) → slice_get rows y ≡ Some row → IsDrawnBy dealt samplers y row.sampler
