-- Runs along one axis, and the stretches of a run that lie in one page.
use Rattle.std.specs.Prelude.{◌≡◌, ℕ, ◌+◌, ◌/◌, ◌^◌, ◌<◌, ◌≤◌}
use Rattle.vt_pages.specs.Shape.{Shape}
use Rattle.vt_draw.specs.Lookups.{Note, IsFinestFound, covering_page}
use Rattle.vt_texel_runs.specs.declared.spans.Span.{Span}
use Rattle.vt_texel_runs.specs.declared.spans.Stretch.{Stretch}
use Rattle.vt_texel_runs.specs.Spans.{stepped, span_point}

-- each of the first n places along an axis of a size is inside
abbrev pub IsAxisInside : ℕ → ℕ → ℕ → ℕ → Type 0
IsAxisInside size start step n = (i : ℕ) → i < n → stepped start step i < size

-- the places from i to before e lie in one block of 2 to the power `up` texels
abbrev pub AreTogether : ℕ → ℕ → ℕ → ℕ → ℕ → Type 0
AreTogether start step up i e = (j : ℕ) → i ≤ j → j < e → stepped start step j / 2 ^ up ≡ stepped start step i / 2 ^ up

-- the points of a run from i to before e want one page
abbrev pub IsPageAlong : Shape → Span → ℕ → ℕ → ℕ → Type 0
IsPageAlong s r i e page = (j : ℕ) → i ≤ j → j < e → covering_page s (span_point r j).level (span_point r j).x (span_point r j).y ≡ page

-- the points of a run from i to before the end of a stretch want its page, and what it has was found for that page
pub record IsStretch (s : Shape) (version : ℕ) (says : Note → Type 0) (r : Span) (i : ℕ) (h : Stretch) : Type 0 where
  pub along : IsPageAlong s r i h.until h.page
  pub finest : IsFinestFound s version says h.page h.found
