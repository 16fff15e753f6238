-- Which pages are mapped by a page table's entries, and which are missing: those just before the look-ups of wanted pages.
use Rattle.std.specs.Prelude.{ℕ, nat_lt, Bool, not, List, map, slice_index}
use Rattle.std.specs.List.{filter}
use Rattle.vt_feedback.specs.Shape.{Shape}
use Rattle.vt_feedback.specs.Lookups.{next_finer_page}
use Rattle.vt_plan.specs.PageLists.{each_once}

-- a page has a frame
abbrev pub has_frame : List ℕ → ℕ → Bool
has_frame entries p = nat_lt 0 (slice_index entries p)

-- the steps of the unmapped ones of some pages, each once at its first place
unfoldable pub missing_from : Shape → List ℕ → List ℕ → List ℕ
missing_from s entries pages = each_once (map (next_finer_page s (has_frame entries)) (filter (λ p. not (has_frame entries p)) pages))
