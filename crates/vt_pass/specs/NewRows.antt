-- How the rows of a pass over shared words came in it.
use Rattle.std.specs.Prelude.{◌≡◌, ℕ, Some, List, slice_get, Contains}
use Rattle.vt_pass_machine.specs.Shape.{Shape}
use Rattle.vt_pass_machine.specs.Paths.{PathView}
use Rattle.vt_pass_machine.specs.JournalTypes.changes.RowLine.{RowLine}
use Rattle.vt_pass_machine.specs.PicturesTypes.filters.Filter.{Ghosts as FilterMeanings}
use Rattle.vt_word_table.specs.GraceTypes.views.Returned.{Returned}
use Rattle.vt_word_table.specs.GraceTypes.views.WriterView.{WriterView}
use Rattle.vt_word_table.specs.WriterViews.{version_of}
use Rattle.vt_word_table.specs.Noted.{AreNotedRows}
use Rattle.vt_word_table.specs.WordWriters.{HasTakenMore}

-- a line's version is one that a pass of its sampler held, which was given at this start and is among these that were taken back
pub record IsHeldLine (start : ℕ) (returned : List Returned) (line : RowLine) : Type 0 where
  pub by : Returned
  pub among : Contains returned by
  pub sampler : by.sampler ≡ line.sampler
  pub given : by.given ≡ start
  pub held : Contains by.held line.version

-- the rows of a picture of a path came between two views of the writer of shared words: passes were taken back, each row was drawn by a filter at its
-- line's version, which such a pass of its sampler had held that was given at the newest version of the first view, and by notes that came back since
pub record AreNewRows {P : Type 0} (filter : FilterMeanings P) (s : Shape) (d : ℕ) (v w : WriterView) (path : PathView) (i : ℕ)
    (lines : List RowLine) (rows : List (List ℕ)) : Type 0 where
  pub taken : HasTakenMore v w
  pub held : (y : ℕ) (line : RowLine) → slice_get lines y ≡ Some line → IsHeldLine (version_of v) taken.returned line
  pub noted : AreNotedRows filter s d v w path i lines rows
