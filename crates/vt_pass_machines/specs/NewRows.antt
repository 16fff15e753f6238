-- How the rows of a pass over the swapped table came in it.
use Rattle.std.specs.Prelude.{◌≡◌, ℕ, Option, None, Some, List, [], slice_get, slice_index_or}
use Rattle.vt_pass_machine.specs.Shape.{Shape}
use Rattle.vt_pass_machine.specs.Paths.{PathView}
use Rattle.vt_pass_machine.specs.Shots.{shot_row}
use Rattle.vt_pass_machine.specs.Evidence.{AreShown}
use Rattle.vt_pass_machine.specs.JournalTypes.changes.RowLine.{RowLine}
use Rattle.vt_pass_machine.specs.PicturesTypes.filters.Filter.{Ghosts as FilterMeanings}
use Rattle.vt_pass_machine.specs.PassRowsTypes.sampler.PassSampler.{PassSampler}
use Rattle.vt_swap_table.specs.Readers.{ReaderView}
use Rattle.vt_swap_table.specs.Notes.{IsSaidBy}
use Rattle.vt_swap_table.specs.Streamers.{StreamerView}
use Rattle.vt_swap_table.specs.Entered.{WasEnteredBetween}
use Rattle.vt_swap_table.specs.SwapWriters.{IsKnownIf}
use Rattle.vt_swap_table.specs.declared.table.SwapReader.{SwapReader}

-- the reader of a sampler of the swapped table, if both are there
abbrev pub reader_by : {T S H W B O M : Type 0} → Option (PassSampler T S H SwapReader W B O M) → Option ReaderView
reader_by None = None
reader_by (Some a) = a.reader.reader

-- a row came between samplers before and after: the reader of its line's sampler entered the line's version meanwhile, what that reader has seen of the
-- log is a beginning of what a writer did, and the row was drawn by a filter by that
pub record IsEnteredRow {T S P H W B O M : Type 0} (filter : FilterMeanings P) (s : Shape) (d : ℕ) (w : StreamerView)
    (before after : List (PassSampler T S H SwapReader W B O M)) (path : PathView) (i y : ℕ) (line : RowLine) (bytes : List ℕ) : Type 0 where
  pub was : ReaderView
  pub had : reader_by (slice_get before line.sampler) ≡ Some was
  pub reader : ReaderView
  pub has : reader_by (slice_get after line.sampler) ≡ Some reader
  pub entered : WasEnteredBetween was reader line.version
  pub known : IsKnownIf w (Some reader)
  pub drawn : AreShown filter.shown s d line.version (IsSaidBy reader.log) (shot_row s path i y) path.width bytes

-- each of the rows of these lines came so
abbrev pub AreEnteredRows : {T S P H W B O M : Type 0} → FilterMeanings P → Shape → ℕ → StreamerView → List (PassSampler T S H SwapReader W B O M)
    → List (PassSampler T S H SwapReader W B O M) → PathView → ℕ → List RowLine → List (List ℕ) → Type 0
AreEnteredRows filter s d w before after path i lines rows = (y : ℕ) (line : RowLine) → slice_get lines y ≡ Some line
    → IsEnteredRow filter s d w before after path i y line (slice_index_or rows y [])
