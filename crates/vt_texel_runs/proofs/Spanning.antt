-- Texels of a run that were answered stay answered, and one more is.
use Rattle.std.proofs.Common.{◌≡◌, ℕ, ◌+◌, ◌<◌, ◌≤◌, ◌⊎◌, List, length, get_or, set, sym, ap, ◌∙◌, subst, ⊎_elim, arith}
use Rattle.std.specs.Prelude.{◌≢◌}
use Rattle.std.proofs.lemmas.List.{get_or-set_same, get_or-set_other}
use Rattle.vt_definitions.specs.Depths.{texel_bytes}
use Rattle.vt_pages.specs.Shape.{Shape}
use Rattle.vt_draw.specs.Lookups.{Note, IsFinestFound, covering_page}
use Rattle.vt_draw.proofs.DrawnPixels.{finest_kept}
use Rattle.vt_texel_runs.specs.declared.spans.Span.{Span}
use Rattle.vt_texel_runs.specs.Points.{IsAnswered}
use Rattle.vt_texel_runs.specs.Spans.{span_point, AreSpanned, AreWantedBySpan}
use Rattle.vt_texel_runs.specs.declared.spans.Stretch.{Stretch}
use Rattle.vt_texel_runs.specs.Stretches.{IsStretch}
use Rattle.vt_texel_runs.proofs.Answering.{answered_kept}

pub spanned_more : (s : Shape) (d version : ℕ) (says later : Note → Type 0) (r : Span) (x : ℕ) (before after : List ℕ)
    → ((note : Note) → says note → later note) → ((i : ℕ) → i ≢ x → texel_bytes d after i ≡ texel_bytes d before i)
    → IsAnswered s d version later (span_point r x) (texel_bytes d after x)
    → AreSpanned s d version says r x before → AreSpanned s d version later r (x + 1) after
spanned_more s d version says later r x before after said kept here so_far i below =
    let or : (i < x) ⊎ (i ≡ x) = grind arith in
    ⊎_elim (λ (low : i < x). let apart : i ≢ x = omega arith in
    subst (λ (t : List ℕ). IsAnswered s d version later (span_point r i) t) (sym (kept i apart))
    (answered_kept s d version says later (span_point r i) (texel_bytes d before i) said (so_far i low)))
    (λ (same : i ≡ x). subst (λ (j : ℕ). IsAnswered s d version later (span_point r j) (texel_bytes d after j)) (sym same) here) or

pub wanted_more : (s : Shape) (r : Span) (x page : ℕ) (pages : List ℕ) → x < length pages
    → page ≡ covering_page s (span_point r x).level (span_point r x).x (span_point r x).y
    → AreWantedBySpan s r x pages → AreWantedBySpan s r (x + 1) (set pages x page)
wanted_more s r x page pages room is so_far i below =
    let want : ℕ → ℕ = λ j. covering_page s (span_point r j).level (span_point r j).x (span_point r j).y in
    let or : (i < x) ⊎ (i ≡ x) = grind arith in
    ⊎_elim (λ (low : i < x). let apart : i ≢ x = omega arith in get_or-set_other pages x i page 0 apart ∙ so_far i low)
    (λ (same : i ≡ x). ap (λ (j : ℕ). get_or (set pages x page) j 0) same ∙ get_or-set_same pages x page 0 room ∙ is ∙ ap want (sym same)) or

-- a stretch goes on with what a look-up goes on to say, also from a later point of it
pub stretch_on : (s : Shape) (version same : ℕ) (says later : Note → Type 0) (r : Span) (i j : ℕ) (h : Stretch) → version ≡ same
    → ((note : Note) → says note → later note) → i ≤ j → IsStretch s version says r i h → IsStretch s same later r j h
stretch_on s version same says later r i j h number said from is = record {
  along = λ k low below. is.along k (omega (arith, from, low)) below;
  finest = subst (λ (n : ℕ). IsFinestFound s n later h.page h.found) number (finest_kept s version says later h.page h.found said is.finest);
}
