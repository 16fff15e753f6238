-- How many pixels want each page, gathered page by page, with the pages that have any listed once.
use Rattle.std.specs.Prelude.{◌≡◌, ◌⊎◌, ℕ, ◌+◌, ◌<◌, ◌≤◌, nat_eq, nat_lt, min, if◌then◌else◌, List, map, slice_index}
use Rattle.std.specs.List.{sum_by}
use Rattle.vt_outside.specs.Lists.{ListView}
use Rattle.vt_feedback.specs.Ranks.{most_pixels}
use Rattle.vt_evict.specs.Kept.{IsWalk}
use Rattle.vt_residency.specs.declared.feedback.Listed.{Listed}

-- of so many pages those that a pixel wants are listed, each once, and there is room for the others
pub record IsTally (n : ℕ) (counts : List ℕ) (pages : ListView ℕ) : Type 0 where
  pub listed : IsWalk n (map (nat_lt 0) counts) pages
  pub most : (p : ℕ) → slice_index counts p ≤ most_pixels

-- how many pixels of one element of a list want a page
abbrev pub pixels_for : ℕ → Listed → ℕ
pixels_for p w = if nat_eq w.page p then w.pixels else 0

-- how many pixels want a page by a list, or the most that a count can have where they are more
abbrev pub pixels_of : List Listed → ℕ → ℕ
pixels_of list p = min most_pixels (sum_by (pixels_for p) list)

-- a count of a page with the pixels of one more element of a list, or the most that a count can have
abbrev pub with_pixels : Listed → ℕ → ℕ → ℕ
with_pixels w p count = min most_pixels (count + pixels_for p w)

-- a page that one pixel wants
abbrev pub one_pixel : ℕ → Listed
one_pixel p = record { page = p; pixels = 1 }

-- a page of so many, or the number that stands for none
abbrev pub IsPageOrNone : ℕ → ℕ → Type 0
IsPageOrNone n p = (p < n) ⊎ (p ≡ 4294967295)
