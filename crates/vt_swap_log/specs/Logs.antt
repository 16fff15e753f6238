-- The log of what was done to the page table and to the frames.
use Rattle.std.specs.Prelude.{◌≡◌, ℕ, ◌==◌, true, Some, List, [], ◌∷◌, ◌++◌, length, take, slice_get, MatchBool}
use Rattle.logbook.specs.Pages.{Cell, Step, View, Book, Named}
use Rattle.vt_journal.specs.declared.changes.Change.{Change}
use Rattle.vt_journal.specs.declared.changes.Change.TheVariants.{Map, Unmap}
use Rattle.vt_journal.specs.Changes.{newest, IsNext, IsFree, AreInTurn}
use Rattle.vt_swap_log.specs.declared.records.LogRecord.{LogRecord}
use Rattle.vt_swap_log.specs.declared.records.LogRecord.TheVariants.{Changed, Filled}

-- the changes in a log, in order: the journal of the page table
abbrev pub changes_in : List LogRecord → List Change
changes_in [] = []
changes_in (Changed change ∷ records) = change ∷ changes_in records
changes_in (Filled frame page words ∷ records) = changes_in records

-- the last that was done is that the frame was filled with a tile of the page
pub record IsFilledLast (log : List LogRecord) (frame page : ℕ) : Type 0 where
  pub before : List LogRecord
  pub words : List ℕ
  pub last : log ≡ before ++ Filled frame page words ∷ []

-- what may be done after what a log tells: a frame is filled while no page is mapped to it; a page is mapped to a frame next after the frame
-- was filled with its tile, where both are free; and a mapped page is unmapped
abbrev pub MayFollow : List LogRecord → LogRecord → Type 0
MayFollow log (Changed (Map page frame)) = IsNext (newest (changes_in log)) (Map page frame) × IsFilledLast log frame page
MayFollow log (Changed (Unmap page frame)) = IsNext (newest (changes_in log)) (Unmap page frame)
MayFollow log (Filled frame page words) = IsFree (newest (changes_in log)) frame

-- each record could come after those before it, and so could each change of the page table
pub record IsLawfulLog (log : List LogRecord) : Type 0 where
  pub steps : (n : ℕ) (r : LogRecord) → slice_get log n ≡ Some r → MayFollow (take n log) r
  pub in_turn : AreInTurn (changes_in log)

-- the first word is the length of the log, which is lawful. A book has two words, of which this one leaves the second at 0
pub record IsLogKept (cells : List Cell) (log : List LogRecord) : Type 0 where
  pub words : cells ≡ (length log, true) ∷ (0, true) ∷ []
  pub lawful : IsLawfulLog log

abbrev pub head_of : Book → Named
head_of b = record { tracked = true; key = 0; book = b }

-- the record was added to all that had been seen; or the log was longer, and was seen
abbrev pub AddsRecord : Step LogRecord → View LogRecord ℕ → ℕ → View LogRecord ℕ → Type 0
AddsRecord s v found w = MatchBool (found == s.old) (w.0 ≡ v.0 ++ s.ask ∷ []) (length w.0 ≡ found)
