-- The corners of a run's texels, and that texels of a run that were blended stay so, and one more is.
use Rattle.std.proofs.Common.{◌≡◌, ℕ, ◌+◌, ◌*◌, ◌/◌, ◌%◌, ◌^◌, ◌<◌, ◌⊎◌, List, sym, ap, ◌∙◌, subst, ⊎_elim, mul_comm, arith}
use Rattle.std.specs.Prelude.{◌≢◌}
use Rattle.std.proofs.Math.Nat.{div-div-eq-div-mul}
use Rattle.vt_definitions.specs.Depths.{texel_bytes, word_bytes}
use Rattle.vt_definitions.specs.Sides.{side}
use Rattle.vt_pages.specs.Shape.{Shape}
use Rattle.vt_pages.specs.Pages.{texel_page}
use Rattle.vt_draw.specs.Lookups.{Note, covering_page}
use Rattle.vt_blend.specs.declared.blends.Texels.{Texels}
use Rattle.vt_blend.specs.declared.corners.Corners.{Corners}
use Rattle.vt_blend.specs.declared.corners.Weights.{Weights}
use Rattle.vt_blend.specs.Blends.{blended_word}
use Rattle.vt_blend.specs.Corners.{corners_at, weights_of}
use Rattle.vt_blend.proofs.Inside.{texel_inside}
use Rattle.vt_plain_bilinear.specs.Served.{AreCornersServed}
use Rattle.vt_plain_bilinear.proofs.Kept.{all_served_kept}
use Rattle.vt_texel_runs.specs.declared.spans.Span.{Span}
use Rattle.vt_texel_runs.specs.Blends.{spot_at, span_corners, IsBlendAt, AreBlendsAlong}
use Rattle.vt_texel_runs.specs.Spans.{stepped, span_point}

-- the texel of level 0 that a place lies in
whole : (n : ℕ) → n / 256 / 256 ≡ n / 65536
whole n = div-div-eq-div-mul n 256 256

-- halving a place, or the texel that it lies in
pub spot_column : (start step i k : ℕ) → spot_at start step i / 2 ^ k / 256 ≡ stepped start step i / 2 ^ k
spot_column start step i k =
    let place : ℕ = spot_at start step i in
    div-div-eq-div-mul place (2 ^ k) 256
    ∙ ap (λ (n : ℕ). place / n) (mul_comm (2 ^ k) 256)
    ∙ sym (div-div-eq-div-mul place 256 (2 ^ k))
    ∙ ap (λ (n : ℕ). n / 2 ^ k) (whole ((start + step * i) % 4294967296))

spot_below : (n width : ℕ) → n / 65536 < width → n / 256 < 256 * width
spot_below n width inside = omega (arith, inside)

-- the place of a point of the texture lies in a texel of each level
pub column_inside : (width many start step i k : ℕ) → many ≡ side width k → stepped start step i < width → spot_at start step i / 2 ^ k / 256 < many
column_inside width many start step i k is inside =
    subst (λ (n : ℕ). spot_at start step i / 2 ^ k / 256 < n) (sym is)
    (texel_inside width (spot_at start step i) k (spot_below ((start + step * i) % 4294967296) width inside))

-- the corners of a texel of a run, by the sides of its level
pub corners_are_along : (s : Shape) (r : Span) (i wide high : ℕ) (at : Corners) → wide ≡ side s.width r.level → high ≡ side s.height r.level
    → at ≡ corners_at wide high (spot_at r.x r.step_x i / 2 ^ r.level) (spot_at r.y r.step_y i / 2 ^ r.level) → at ≡ span_corners s r i
unfolding span_corners
corners_are_along s r i wide high at w h is =
    let a : ℕ = spot_at r.x r.step_x i / 2 ^ r.level in
    let b : ℕ = spot_at r.y r.step_y i / 2 ^ r.level in
    is ∙ ap (λ (n : ℕ). corners_at n high a b) w ∙ ap (λ (n : ℕ). corners_at (side s.width r.level) n a b) h

first_page : (s : Shape) (r : Span) (i : ℕ)
    → texel_page s r.level (span_corners s r i).column (span_corners s r i).line ≡ covering_page s (span_point r i).level (span_point r i).x (span_point r i).y
unfolding span_corners
first_page s r i = λ j. texel_page s r.level (spot_column r.x r.step_x i r.level j) (spot_column r.y r.step_y i r.level j)

-- the page of the first corner is the one that the run's point wants
pub page_along : (s : Shape) (r : Span) (i page : ℕ) (at : Corners) → page ≡ texel_page s r.level at.column at.line → at ≡ span_corners s r i
    → page ≡ covering_page s (span_point r i).level (span_point r i).x (span_point r i).y
page_along s r i page at of is = of ∙ ap (λ (q : Corners). texel_page s r.level q.column q.line) is ∙ first_page s r i

-- the bytes of the blend of words that serve some corners, by the names of what was computed
pub blend_here : (s : Shape) (d version : ℕ) (says : Note → Type 0) (k word : ℕ) (at same : Corners) (w : Weights) (t : Texels) (bytes : List ℕ)
    → at ≡ same → AreCornersServed s version says k at t → w ≡ weights_of at → word ≡ blended_word d w t → bytes ≡ word_bytes d word
    → IsBlendAt s d version says k same bytes
blend_here s d version says k word at same w t bytes is served weighs blend shown = record {
  texels = t;
  served = subst (λ (c : Corners). AreCornersServed s version says k c t) is served;
  shown =
      shown ∙ ap (word_bytes d) blend ∙ ap (λ (v : Weights). word_bytes d (blended_word d v t)) weighs
      ∙ ap (λ (c : Corners). word_bytes d (blended_word d (weights_of c) t)) is;
}

blend_kept : (s : Shape) (d version : ℕ) (says later : Note → Type 0) (k : ℕ) (at : Corners) (bytes : List ℕ)
    → ((note : Note) → says note → later note) → IsBlendAt s d version says k at bytes → IsBlendAt s d version later k at bytes
blend_kept s d version says later k at bytes said h = record {
  texels = h.texels;
  served = all_served_kept s version says later k at h.texels said h.served;
  shown = h.shown;
}

pub blends_more : (s : Shape) (d version : ℕ) (says later : Note → Type 0) (r : Span) (x : ℕ) (before after : List ℕ)
    → ((note : Note) → says note → later note) → ((i : ℕ) → i ≢ x → texel_bytes d after i ≡ texel_bytes d before i)
    → IsBlendAt s d version later r.level (span_corners s r x) (texel_bytes d after x)
    → AreBlendsAlong s d version says r x before → AreBlendsAlong s d version later r (x + 1) after
blends_more s d version says later r x before after said kept here so_far i below =
    let or : (i < x) ⊎ (i ≡ x) = grind arith in
    ⊎_elim (λ (low : i < x). let apart : i ≢ x = omega arith in
    subst (λ (t : List ℕ). IsBlendAt s d version later r.level (span_corners s r i) t) (sym (kept i apart))
    (blend_kept s d version says later r.level (span_corners s r i) (texel_bytes d before i) said (so_far i low)))
    (λ (same : i ≡ x). subst (λ (j : ℕ). IsBlendAt s d version later r.level (span_corners s r j) (texel_bytes d after j)) (sym same) here) or
