-- Pixels that were blended stay so, and one more is.
use Rattle.std.proofs.Common.{◌≡◌, ◌≢◌, ℕ, ◌+◌, ◌<◌, ◌⊎◌, ⊎_elim, List, sym, ap, subst, ◌∙◌, arith}
use Rattle.vt_definitions.specs.Depths.{texel_bytes, word_bytes}
use Rattle.vt_pages.specs.Shape.{Shape}
use Rattle.vt_camera.specs.Rows.{RowView, row_level}
use Rattle.vt_draw.specs.Lookups.{Note}
use Rattle.vt_blend.specs.declared.corners.Corners.{Corners}
use Rattle.vt_blend.specs.declared.corners.Weights.{Weights}
use Rattle.vt_blend.specs.declared.blends.Texels.{Texels}
use Rattle.vt_blend.specs.Corners.{corners_of, weights_of}
use Rattle.vt_blend.specs.Blends.{blended_word}
use Rattle.vt_plain_bilinear.specs.Served.{AreCornersServed, IsBlended, AreBlended, AreTexelsCounted}
use Rattle.vt_plain_bilinear.proofs.Kept.{all_served_kept}

blended_kept : (s : Shape) (d version : ℕ) (says later : Note → Type 0) (row : RowView) (x : ℕ) (bytes : List ℕ)
    → ((note : Note) → says note → later note) → IsBlended s d version says row x bytes → IsBlended s d version later row x bytes
blended_kept s d version says later row x bytes said h = record {
  texels = h.texels;
  served = all_served_kept s version says later (row_level row) (corners_of row x) h.texels said h.served;
  shown = h.shown;
}

-- a pixel whose texels were served at its corners, and whose bytes are those of their blend
pub blended_here : (s : Shape) (d version : ℕ) (says : Note → Type 0) (row : RowView) (x level word : ℕ) (at : Corners) (w : Weights) (t : Texels)
    (bytes : List ℕ) → level ≡ row_level row → at ≡ corners_of row x → AreCornersServed s version says level at t → w ≡ weights_of at
    → word ≡ blended_word d w t → bytes ≡ word_bytes d word → IsBlended s d version says row x bytes
blended_here s d version says row x level word at w t bytes k is served weighs blend shown = record {
  texels = t;
  served =
      subst (λ (c : Corners). AreCornersServed s version says (row_level row) c t) is
      (subst (λ (i : ℕ). AreCornersServed s version says i at t) k served);
  shown =
      shown ∙ ap (word_bytes d) blend ∙ ap (λ (v : Weights). word_bytes d (blended_word d v t)) weighs
      ∙ ap (λ (c : Corners). word_bytes d (blended_word d (weights_of c) t)) is;
}

-- one pixel more is blended
pub blended-more : (s : Shape) (d version : ℕ) (says later : Note → Type 0) (row : RowView) (x : ℕ) (before after : List ℕ)
    → ((note : Note) → says note → later note)
    → ((i : ℕ) → i ≢ x → texel_bytes d after i ≡ texel_bytes d before i) → IsBlended s d version later row x (texel_bytes d after x)
    → ((i : ℕ) → i < x → IsBlended s d version says row i (texel_bytes d before i))
    → (i : ℕ) → i < x + 1 → IsBlended s d version later row i (texel_bytes d after i)
blended-more s d version says later row x before after said kept here so_far i below =
    let P : List ℕ → Type 0 = λ t. IsBlended s d version later row i t in
    let Q : ℕ → Type 0 = λ j. IsBlended s d version later row j (texel_bytes d after j) in
    let or : (i < x) ⊎ (i ≡ x) = grind arith in
    ⊎_elim (λ (low : i < x). let apart : i ≢ x = omega arith in subst P (sym (kept i apart))
    (blended_kept s d version says later row i (texel_bytes d before i) said (so_far i low)))
    (λ (same : i ≡ x). subst Q (sym same) here) or

-- by equations on the depth, the version, the row and its length
pub blended_as : (s : Shape) (e d v : ℕ) (says : Note → Type 0) (r t : RowView) (n m : ℕ) (out : List ℕ) → e ≡ d → r ≡ t → n ≡ m
    → AreBlended s e v says r n out → AreBlended s d v says t m out
blended_as s e d v says r t n m out depth row width drawn =
    subst (λ (a : ℕ). AreBlended s a v says t m out) depth
    (subst (λ (a : RowView). AreBlended s e v says a m out) row (subst (λ (a : ℕ). AreBlended s e v says r a out) width drawn))

pub counted_as : (s : Shape) (r t : RowView) (n m : ℕ) (old new : List ℕ) → r ≡ t → n ≡ m → AreTexelsCounted s r n old new
    → AreTexelsCounted s t m old new
counted_as s r t n m old new row width counted =
    subst (λ (a : RowView). AreTexelsCounted s a m old new) row (subst (λ (a : ℕ). AreTexelsCounted s r a old new) width counted)
