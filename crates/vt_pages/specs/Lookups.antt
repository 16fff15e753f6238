-- The look-up: the first mapped page of a page's ancestor chain. The next finer page, just before it, is the one to load.
use Rattle.std.specs.Prelude.{ℕ, ◌-◌, Bool, Option, slice_get, slice_index}
use Rattle.std.specs.List.{position_or_len}
use Rattle.vt_pages.specs.Shape.{Shape}
use Rattle.vt_pages.specs.Pages.{ancestors_of}

-- how many pages of a page's line are before the first that is mapped
abbrev pub pages_before : Shape → (ℕ → Bool) → ℕ → ℕ
pages_before s mapped p = position_or_len mapped (ancestors_of s p)

-- the look-up of a page: the first page of its line that is mapped, if there is one (van Waveren 2012)
unfoldable pub lookup : Shape → (ℕ → Bool) → ℕ → Option ℕ
lookup s mapped p = slice_get (ancestors_of s p) (pages_before s mapped p)

-- the next finer page to load for an unmapped page: the page of its ancestor chain that is just before its look-up
unfoldable pub next_finer_page : Shape → (ℕ → Bool) → ℕ → ℕ
next_finer_page s mapped p = slice_index (ancestors_of s p) (pages_before s mapped p - 1)
