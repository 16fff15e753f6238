-- The wanted list: each page that a pixel wants, once, the coarser level first, then more pixels, then the smaller index.
use Rattle.std.specs.Prelude.{◌≡◌, ℕ, ◌<◌, Bool, true, ◌==◌, nat_lt, nat_eq, ◌&&◌, ◌||◌, ◌↔◌, List, map, Contains}
use Rattle.std.specs.List.{AllPairs, IsDistinct}
use Rattle.vt_pages.specs.Shape.{Shape}
use Rattle.vt_pages.specs.Pages.{level_of, pages_of}
use Rattle.vt_feedback.specs.declared.Wanted.{Wanted}

-- the pages of a wanted list, in its order
abbrev pub pages_wanted : List Wanted → List ℕ
pages_wanted wants = map (λ w. w.page) wants

-- no page is twice in a wanted list
abbrev pub WantsOnce : List Wanted → Type 0
WantsOnce wants = IsDistinct nat_eq (pages_wanted wants)

-- a wanted page is asked for before another: its level is coarser, or else more pixels want it, or else its index is smaller
abbrev pub is_before : Shape → Wanted → Wanted → Bool
is_before s a b = nat_lt (level_of s b.page) (level_of s a.page)
    || (level_of s a.page == level_of s b.page && (nat_lt b.pixels a.pixels || (a.pixels == b.pixels && nat_lt a.page b.page)))

-- a page is wanted by so many pixels, and by one at least
pub record IsWanted (s : Shape) (pixels : ℕ → ℕ) (w : Wanted) : Type 0 where
  pub inside : w.page < pages_of s
  pub some : 0 < w.pixels
  pub all : w.pixels ≡ pixels w.page

-- a list is the wanted list for the number of pixels that want each page: it has each wanted page once, each before the next (Mayer 2010)
pub record IsWants (s : Shape) (pixels : ℕ → ℕ) (wants : List Wanted) : Type 0 where
  pub ordered : AllPairs (λ a b. is_before s a b ≡ true) wants
  pub once : WantsOnce wants
  pub exact : (w : Wanted) → Contains wants w ↔ IsWanted s pixels w
