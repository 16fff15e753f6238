-- Which loads under way a wanted page needs.
use Rattle.std.specs.Prelude.{◌≡◌, ℕ, true, nat_lt, Bool, ◌&&◌, if◌then◌else◌, List, slice_index}
use Rattle.std.specs.List.{list_any}
use Rattle.vt_pages.specs.Shape.{Shape}
use Rattle.vt_pages.specs.Pages.{pages_of, ancestors_of}
use Rattle.vt_evict.specs.PlanTypes.batches.Planned.{Planned}
use Rattle.vt_evict.specs.PageLists.{is_in}

-- a wanted page needs each page of its line: itself and its ancestors; what is no page needs none
abbrev pub needs : Shape → ℕ → ℕ → Bool
needs s p wanted = nat_lt wanted (pages_of s) && is_in (ancestors_of s wanted) p

-- one of some wanted pages needs a page
abbrev pub is_needed : Shape → List ℕ → ℕ → Bool
is_needed s wanted p = list_any (needs s p) wanted

-- a caller's number for a load that is under way: a wanted page needs its page, and it stays so, or none does, and it is lost
abbrev pub state_for : Shape → List ℕ → Planned → ℕ
state_for s wanted load = if is_needed s wanted load.page then 2 else 1

-- a page has a count above 0
abbrev pub is_counted : List ℕ → ℕ → Bool
is_counted counts p = nat_lt 0 (slice_index counts p)

-- the same by counts
abbrev pub load_state_by : List ℕ → Planned → ℕ
load_state_by counts load = if is_counted counts load.page then 2 else 1

-- with each page that is counted its whole line is
pub record AreWholeLines (s : Shape) (counts : List ℕ) : Type 0 where
  pub lines : (p q : ℕ) → is_counted counts p ≡ true → is_in (ancestors_of s p) q ≡ true → is_counted counts q ≡ true
