-- Which page stands in for a page that is not mapped (van Waveren 2012).
use Rattle.std.specs.Prelude.{◌≡◌, ◌≢◌, ℕ, ◌<◌, Bool, is_some, Some, None, List, slice_get}
use Rattle.vt_pages.specs.Shape.{Shape}
use Rattle.vt_pages.specs.Pages.{ancestors_of}
use Rattle.vt_journal.specs.declared.changes.Change.{Change}
use Rattle.vt_journal.specs.declared.changes.Change.TheVariants.{Map, Unmap}
use Rattle.vt_journal.specs.Changes.{Table}

-- whether a table maps a page
abbrev pub is_mapped : Table → ℕ → Bool
is_mapped m p = is_some (m p)

-- a page of the list is mapped, and none before it
pub record IsFirstMapped (m : Table) (ps : List ℕ) (a : ℕ) : Type 0 where
  pub place : ℕ
  pub stands : slice_get ps place ≡ Some a
  pub frame : ℕ
  pub mapped : m a ≡ Some frame
  pub before : (k q : ℕ) → k < place → slice_get ps k ≡ Some q → m q ≡ None

-- the finest mapped page among a page and its ancestors (van Waveren 2012)
abbrev pub IsFinest : Shape → Table → ℕ → ℕ → Type 0
IsFinest s m p a = IsFirstMapped m (ancestors_of s p) a

-- the page that a change maps or unmaps
abbrev pub change_page : Change → ℕ
change_page (Map page frame) = page
change_page (Unmap page frame) = page

-- the page is not among these
abbrev pub IsAway : ℕ → List ℕ → Type 0
IsAway page ps = (k q : ℕ) → slice_get ps k ≡ Some q → q ≢ page
