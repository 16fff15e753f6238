-- The versions of a page table, as a list of changes (Mayer 2010).
use Rattle.std.specs.Prelude.{◌≡◌, ◌≢◌, ℕ, zero, suc, ◌+◌, ◌-◌, ◌<◌, ◌≤◌, ◌==◌, if◌then◌else◌, Option, Some, None, List, length, slice_get}
use Rattle.vt_journal.specs.declared.changes.Change.{Change}
use Rattle.vt_journal.specs.declared.changes.Change.TheVariants.{Map, Unmap}
use Rattle.vt_pages.specs.Shape.{Shape}
use Rattle.vt_pages.specs.Pages.{pages_of, root_of}

-- a page table gives the frame of each page that is mapped
abbrev pub Table : Type 0
Table = ℕ → Option ℕ

-- no page is mapped
abbrev pub nothing_mapped : Table
nothing_mapped p = None

-- the table in which one page has another entry
abbrev pub with_entry : Table → ℕ → Option ℕ → Table
with_entry m page entry p = if p == page then entry else m p

-- the table after a change
abbrev pub changed : Table → Change → Table
changed m (Map page frame) = with_entry m page (Some frame)
changed m (Unmap page frame) = with_entry m page None

-- the table after a change, if there is one
abbrev pub changed_by : Table → Option Change → Table
changed_by m None = m
changed_by m (Some change) = changed m change

-- the table of a version: version 0 maps nothing, and each change makes the next version
unfoldable pub at : List Change → ℕ → Table
at changes zero = nothing_mapped
at changes (suc v) = changed_by (at changes v) (slice_get changes v)

-- the table of the newest version
abbrev pub newest : List Change → Table
newest changes = at changes (length changes)

-- no page is mapped to the frame
abbrev pub IsFree : Table → ℕ → Type 0
IsFree m frame = (p : ℕ) → m p ≢ Some frame

-- a map's page and frame are free, and an unmap's page is mapped to its frame
abbrev pub IsNext : Table → Change → Type 0
IsNext m (Map page frame) = (m page ≡ None) × IsFree m frame
IsNext m (Unmap page frame) = m page ≡ Some frame

-- the change does not unmap the page
abbrev pub Keeps : ℕ → Change → Type 0
Keeps root (Map page frame) = Unit {0}
Keeps root (Unmap page frame) = page ≢ root

-- a change is legal after a table
abbrev pub IsLegalNext : Shape → Table → Change → Type 0
IsLegalNext s m change = IsNext m change × Keeps (root_of s) change

-- each change may come after those before it
abbrev pub AreInTurn : List Change → Type 0
AreInTurn changes = (v : ℕ) (change : Change) → slice_get changes v ≡ Some change → IsNext (at changes v) change

-- each change is legal after those before it
abbrev pub AreLegal : Shape → List Change → Type 0
AreLegal s changes = (v : ℕ) (change : Change) → slice_get changes v ≡ Some change → IsLegalNext s (at changes v) change

-- the first changes map the last so many pages in order to the first frames, and no later change unmaps one of them (Mayer 2010)
pub record Pinned (s : Shape) (changes : List Change) (pinned : ℕ) : Type 0 where
  pub few : pinned ≤ pages_of s
  pub first : (i : ℕ) → i < pinned → slice_get changes i ≡ Some (Map (pages_of s - pinned + i) i)
  pub kept : (v page frame : ℕ) → pinned ≤ v → slice_get changes v ≡ Some (Unmap page frame) → page + pinned < pages_of s

-- no two pages are mapped to one frame
abbrev pub IsOneToOne : Table → Type 0
IsOneToOne m = (p q frame : ℕ) → m p ≡ Some frame → m q ≡ Some frame → p ≡ q
