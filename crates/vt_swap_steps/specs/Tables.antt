-- The page table as it is published: a version is that at the end of a journal, and what may be published next.
use Rattle.std.specs.Prelude.{◌≡◌, ◌+◌, ◌%◌, ◌^◌, ◌<◌, ◌≤◌, List, [], ◌∷◌, ◌++◌, length}
use Rattle.vt_journal.specs.Limits.{most_versions}
use Rattle.vt_journal.specs.declared.changes.Change.{Change}
use Rattle.vt_journal.specs.Kept.{change_frame}
use Rattle.vt_swap_log.specs.declared.log.Front.{Front}
use Rattle.vt_swap_steps.specs.declared.table.NewestTable.{NewestTable}
use Rattle.vt_swap_steps.specs.declared.table.TableState.{TableState}
use Rattle.vt_swap_steps.specs.declared.table.Operation.{Operation}
use Rattle.vt_swap_log.specs.Logs.{changes_in}
use Rattle.vt_swap_log.specs.Caches.{AreOfOneLog}
use Rattle.vt_swap_steps.specs.Entries.{changed_entries, IsAt}

-- what the copies of a table have in common
abbrev pub shown : NewestTable → TableState
shown t = record { version = t.version; entries = t.entries.items; front = t.front }

-- and what an operation does to it
abbrev pub applied : TableState → Operation → TableState
applied s o = record {
  version = (s.version + 1) % 2 ^ 64;
  entries = changed_entries s.entries o.change;
  front = o.front;
}

-- the changes in what was seen of a log
abbrev pub journal_of : Front → List Change
journal_of f = changes_in f.seen.log

-- a table is that of all changes in what was seen of the log when it was made, and has an entry for each page of the cache
abbrev pub IsNewestTable : NewestTable → Type 0
IsNewestTable t = IsAt t.front.pages (journal_of t.front) t.version t.entries.items

-- all is published: the table is of the newest version, what was seen of the log since tells no change, and no operation waits
pub record IsPublished (t : NewestTable) (pending : List Operation) (front : Front) : Type 0 where
  pub version : t.version ≡ length (journal_of t.front)
  pub cache : AreOfOneLog t.front front
  pub journal : journal_of t.front ≡ journal_of front
  pub none : pending ≡ []

-- a change may be published that is the last of the journal: nothing else waits, and all changes before it are published
pub record MayPublish (t : NewestTable) (pending : List Operation) (change : Change) (front : Front) : Type 0 where
  pub version : t.version ≡ length (journal_of t.front)
  pub cache : AreOfOneLog t.front front
  pub none : pending ≡ []
  pub journal : journal_of front ≡ journal_of t.front ++ change ∷ []
  pub early : length (journal_of front) ≤ most_versions
  pub frame : change_frame change + 1 < 2 ^ 32
