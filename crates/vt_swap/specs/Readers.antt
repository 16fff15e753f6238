-- What a reader of the page table has seen, and a look-up in a version that it entered.
use Rattle.std.specs.Prelude.{◌≡◌, ℕ, ◌≤◌, Bool, false, List, [], ◌∷◌, ◌++◌, length, All}
use mathlib.Core.List.{IsPrefix}
use Rattle.vt_pages.specs.Shape.{Shape}
use Rattle.vt_pictures.specs.DrawLookups.{Note}
use Rattle.vt_swap_steps.specs.LogTypes.records.LogRecord.{LogRecord}
use Rattle.vt_swap_steps.specs.declared.table.NewestTable.{NewestTable}
use Rattle.vt_swap_steps.specs.LogTypes.frame.FrameKey.{FrameKey}
use Rattle.vt_swap_steps.specs.Logs.{changes_in}
use Rattle.vt_swap_steps.specs.Caches.{Cache}
use Rattle.vt_swap_steps.specs.Tables.{IsNewestTable}
use Rattle.vt_swap_steps.specs.Slots.{AreSlotsOf}
use Rattle.vt_swap.specs.Notes.{IsSaidBy}

-- a reader: of which page cache, what was seen of its log, and the versions that were entered, the newest first
pub record ReaderView : Type 0 where
  pub cache : Cache
  pub log : List LogRecord
  pub entered : List ℕ

-- a reader has seen no less, and entered versions besides
pub record HasEnteredMore (r q : ReaderView) (more : List ℕ) : Type 0 where
  pub cache : q.cache ≡ r.cache
  pub log : IsPrefix r.log q.log
  pub entered : q.entered ≡ more ++ r.entered

-- a version was entered in between, the last of all, and no later one before; it is one of the journal, as far as that was seen
pub record WasEntered (r q : ReaderView) (version : ℕ) : Type 0 where
  pub before : List ℕ
  pub more : HasEnteredMore r q (version ∷ before)
  pub later : All (λ u. u ≤ version) r.entered
  pub known : version ≤ length (changes_in q.log)

-- a look-up: the shape of the pages, the table, the slots of the frames, which page cache it is and what was seen of its log; the frame that it has the right
-- to read, if it has one; and whether a check failed
pub record LookupView : Type 0 where
  pub shape : Shape
  pub table : NewestTable
  pub slots : List FrameKey
  pub cache : Cache
  pub log : List LogRecord
  pub slot : ℕ
  pub failed : Bool

-- what holds of every look-up
pub record IsLookup (v : LookupView) : Type 0 where
  pub table : IsNewestTable v.table
  pub seen : IsPrefix v.table.front.seen.log v.log
  pub slots_are : AreSlotsOf v.cache v.slots

-- where no check failed, it says what the log says
abbrev pub IsSaidIn : LookupView → Note → Type 0
IsSaidIn v note = v.failed ≡ false → IsSaidBy v.log note

-- what no call of a look-up changes
abbrev pub lookup_base : LookupView → LookupView
lookup_base v = record v { log = []; slot = 0; failed = false }
