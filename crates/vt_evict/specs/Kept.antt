-- What is kept beside the table: the marks of a walk over lines.
use Rattle.std.specs.Prelude.{◌≡◌, ℕ, ◌+◌, ◌-◌, ◌^◌, ◌≤◌, min, map, ◌&&◌, not, nat_lt, [], Bool, true, false, nat_eq, slice_set, Option, None, Some, ◌∷◌, ◌++◌, List, length, slice_index_or}
use Rattle.std.specs.List.{IsDistinct, filter, range_with_len}
use Rattle.vt_outside.specs.Lists.{ListView}
use Rattle.vt_plan.specs.Shape.{Shape}
use Rattle.vt_plan.specs.Pages.{pages_of, parent_of}
use Rattle.vt_plan.specs.FeedbackTypes.Wanted.{Wanted}
use Rattle.vt_plan.specs.declared.batches.Planned.{Planned}
use Rattle.vt_plan.specs.PageLists.{is_in}
use Rattle.vt_plan.specs.Entries.{taken_at}
use Rattle.vt_plan.specs.Views.{RecencyView, IsRecencyTable, is_held}
use Rattle.vt_plan.specs.Plans.{candidates}

-- of so many pages those that were walked over are marked, and there is room for the others
pub record IsWalk (pages : ℕ) (marks : List Bool) (walked : ListView ℕ) : Type 0 where
  pub marks_for_all : length marks ≡ pages
  pub marked : (p : ℕ) → slice_index_or marks p false ≡ is_in walked.elements p
  pub once : IsDistinct nat_eq walked.elements
  pub room : pages ≤ walked.spare + length walked.elements

-- the parents of a list's pages are in the list
pub record HasParents (s : Shape) (walked : List ℕ) : Type 0 where
  pub parents : (p q : ℕ) → is_in walked p ≡ true → parent_of s p ≡ Some q → is_in walked q ≡ true

-- what is kept beside a table: the free frames, the order's room, and a walk over no page
pub record IsRecencyKept (v : RecencyView) (free : List ℕ) (cap : ℕ) (marks : List Bool) (walked : ListView ℕ) : Type 0 where
  pub table : IsRecencyTable v
  pub free_frames : (f : ℕ) → is_in free f ≡ (nat_lt f v.frames && not (is_held v.entries f))
  pub no_bound : cap ≡ 2 ^ 64 - 1
  pub walk : IsWalk (pages_of v.shape) marks walked
  pub none : walked.elements ≡ []

-- the entries without a victim
abbrev pub without_victim : List ℕ → Option ℕ → List ℕ
without_victim entries None = entries
without_victim entries (Some v) = slice_set entries v 0

-- the order without a victim
abbrev pub order_without : List ℕ → Option ℕ → List ℕ
order_without order None = order
order_without order (Some v) = filter (λ y. not (nat_eq v y)) order

-- the table after one entry
unfoldable pub applied : RecencyView → Planned → RecencyView
applied v e = record v {
  entries = slice_set (without_victim v.entries e.victim) e.page (e.frame + 1);
  order = e.page ∷ order_without v.order e.victim;
}

-- behind the entries before, missing pages have the frames of the pages that may be given up, up to so many entries in all
abbrev pub HasTakenFrames : RecencyView → List Wanted → List ℕ → ℕ → List Planned → List Planned → Type 0
HasTakenFrames v wants missing most before after = after ≡ before ++ map (taken_at v.entries missing (candidates v wants) (length before))
    (range_with_len 0 (min (most - length before) (length (candidates v wants))))
