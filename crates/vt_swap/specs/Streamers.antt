-- The writer of a page cache.
use Rattle.std.specs.Prelude.{◌≡◌, ℕ, Bool, false, Option, Some, None, MatchOption, List, [], ◌∷◌, ◌++◌, length}
use Rattle.vt_journal.specs.declared.changes.Change.{Change}
use Rattle.vt_journal.specs.declared.changes.Change.TheVariants.{Map, Unmap}
use Rattle.vt_journal.specs.Changes.{Table, IsFree}
use Rattle.vt_swap_steps.specs.LogTypes.records.LogRecord.{LogRecord}
use Rattle.vt_swap_steps.specs.LogTypes.records.LogRecord.TheVariants.{Changed, Filled}
use Rattle.vt_swap_steps.specs.Logs.{changes_in}
use Rattle.vt_swap_steps.specs.Caches.{Cache}
use Rattle.vt_swap.specs.Notes.{AreWordsOf}

-- a writer: of which page cache, and what it has done by the log; the journal of the page table, and how many more changes there is room for; the
-- version that readers find who enter; and whether it was refused memory in mid-step, after which it does nothing any more
pub record StreamerView : Type 0 where
  pub cache : Cache
  pub log : List LogRecord
  pub journal : List Change
  pub room : ℕ
  pub shown : ℕ
  pub broken : Bool

-- the journal is that of the log, where the writer was not refused memory in between
abbrev pub IsJournalWhole : StreamerView → Type 0
IsJournalWhole v = v.broken ≡ false → changes_in v.log ≡ v.journal

-- the version that readers find is the newest
abbrev pub IsShown : StreamerView → Type 0
IsShown v = v.shown ≡ length v.journal

-- a page was unmapped
pub record HasUnmapped (v w : StreamerView) (page frame : ℕ) : Type 0 where
  pub cache : w.cache ≡ v.cache
  pub log : w.log ≡ v.log ++ Changed (Unmap page frame) ∷ []
  pub journal : w.journal ≡ v.journal ++ Unmap page frame ∷ []

-- a page was mapped to a frame, which was filled with its tile before
pub record HasMapped (d texels : ℕ) (tile : List ℕ) (v w : StreamerView) (page frame : ℕ) : Type 0 where
  pub cache : w.cache ≡ v.cache
  pub words : List ℕ
  pub words_of : AreWordsOf d texels tile words
  pub log : w.log ≡ v.log ++ Filled frame page words ∷ Changed (Map page frame) ∷ []
  pub journal : w.journal ≡ v.journal ++ Map page frame ∷ []

-- memory was refused: the journal is as it was, and so is the log, where the writer goes on
pub record IsSwapRefused (v w : StreamerView) : Type 0 where
  pub cache : w.cache ≡ v.cache
  pub journal : w.journal ≡ v.journal
  pub log : w.broken ≡ false → w.log ≡ v.log

-- a page may be brought into a frame: it is not mapped, and the frame is free, or its victim's
pub record MayBring (m : Table) (page frame : ℕ) (victim : Option ℕ) : Type 0 where
  pub unmapped : m page ≡ None
  pub place : MatchOption victim (IsFree m frame) (λ v. m v ≡ Some frame)

-- the unmap of a victim, if there is one
abbrev pub victim_changes : Option ℕ → ℕ → List Change
victim_changes None frame = []
victim_changes (Some victim) frame = Unmap victim frame ∷ []

-- the same in a log
abbrev pub victim_records : Option ℕ → ℕ → List LogRecord
victim_records None frame = []
victim_records (Some victim) frame = Changed (Unmap victim frame) ∷ []

-- a page was brought into a frame: first its victim was unmapped, if there is one; then the frame was filled; then the page was mapped
pub record HasBrought (d texels : ℕ) (tile : List ℕ) (v w : StreamerView) (page frame : ℕ) (victim : Option ℕ) : Type 0 where
  pub cache : w.cache ≡ v.cache
  pub words : List ℕ
  pub words_of : AreWordsOf d texels tile words
  pub log : w.log ≡ v.log ++ (victim_records victim frame ++ Filled frame page words ∷ Changed (Map page frame) ∷ [])
  pub journal : w.journal ≡ v.journal ++ (victim_changes victim frame ++ Map page frame ∷ [])
