-- Each of the four texels of a blend is answered as a texel over a point is. So what is known of each texel that is answered, as that it is of
-- the tile that was given for its page, is known of the texels of a blend.
use Rattle.std.proofs.Common.{◌≡◌, ℕ, ◌+◌, ◌-◌, ◌*◌, ◌/◌, ◌^◌, ◌<◌, ◌≤◌, List, refl, sym, ap, ◌∙◌, subst, arith}
use Rattle.std.proofs.lemmas.Nat.{pow_pos, pow-add}
use Rattle.std.proofs.Math.Nat.{mul-div_cancel, div-div-eq-div-mul}
use Rattle.vt_definitions.specs.Depths.{word_bytes}
use Rattle.vt_definitions.specs.Sides.{side}
use Rattle.vt_pages.specs.Shape.{Shape}
use Rattle.vt_pages.specs.Pages.{levels_of, texel_page}
use Rattle.vt_pages.specs.Laws.{IsInside}
use Rattle.vt_draw.specs.Lookups.{Note, WordNote, IsFinestFound, place_in_tile}
use Rattle.vt_blend.specs.declared.blends.Texels.{Texels}
use Rattle.vt_blend.specs.declared.corners.Corners.{Corners}
use Rattle.vt_blend.specs.Blends.{blended_word}
use Rattle.vt_blend.specs.Corners.{weights_of, AreInside}
use Rattle.vt_plain_bilinear.specs.Inside.{covered}
use Rattle.vt_plain_bilinear.specs.Served.{IsServed}
use Rattle.vt_texel_runs.specs.declared.points.Point.{Point}
use Rattle.vt_texel_runs.specs.Blends.{IsBlendAt}
use Rattle.vt_texel_runs.specs.Points.{IsAnswered}

-- a level, and the first place of level 0 that a texel of it covers
abbrev pub texel_point : ℕ → ℕ → ℕ → Point
texel_point k x y = record { level = k; x = x * 2 ^ k; y = y * 2 ^ k }

-- the bytes are those of the blend of four texels at some corners of a level, of each of which this is known
pub record IsBlendOf (Of : Point → List ℕ → Type 0) (d k : ℕ) (at : Corners) (bytes : List ℕ) : Type 0 where
  pub texels : Texels
  pub first : Of (texel_point k at.column at.line) (word_bytes d texels.first)
  pub second : Of (texel_point k at.next_column at.line) (word_bytes d texels.second)
  pub third : Of (texel_point k at.column at.next_line) (word_bytes d texels.third)
  pub fourth : Of (texel_point k at.next_column at.next_line) (word_bytes d texels.fourth)
  pub shown : bytes ≡ word_bytes d (blended_word d (weights_of at) texels)

first_place : (x k : ℕ) → x * 2 ^ k / 2 ^ k ≡ x
first_place x k = mul-div_cancel x (pow_pos k)

coarser : (x k j : ℕ) → k ≤ j → x / 2 ^ (j - k) ≡ x * 2 ^ k / 2 ^ j
coarser x k j low =
    let up : k + (j - k) ≡ j = omega (arith, low) in
    ap (λ (n : ℕ). n / 2 ^ (j - k)) (sym (first_place x k))
    ∙ div-div-eq-div-mul (x * 2 ^ k) (2 ^ k) (2 ^ (j - k))
    ∙ ap (λ (n : ℕ). x * 2 ^ k / n) (sym (pow-add 2 k (j - k)))
    ∙ ap (λ (n : ℕ). x * 2 ^ k / 2 ^ n) up

-- a word that serves a texel is that of the point
pub served_is_answered : (s : Shape) (d version : ℕ) (says : Note → Type 0) (k x y word : ℕ) → 1 ≤ s.tile → IsInside s k x y
    → IsServed s version says k x y word → IsAnswered s d version says (texel_point k x y) (word_bytes d word)
served_is_answered s d version says k x y word some inside h =
    let found = h.found in
    let j : ℕ = found.level in
    let low : k ≤ j = (covered s version says k x y found some inside h.finest).low in
    let page : texel_page s k x y ≡ texel_page s k (x * 2 ^ k / 2 ^ k) (y * 2 ^ k / 2 ^ k) =
    λ i. texel_page s k (sym (first_place x k) i) (sym (first_place y k) i) in
    let place : place_in_tile s (x / 2 ^ (j - k)) (y / 2 ^ (j - k)) ≡ place_in_tile s (x * 2 ^ k / 2 ^ j) (y * 2 ^ k / 2 ^ j) =
    λ i. place_in_tile s (coarser x k j low i) (coarser y k j low i) in
    record {
      found = found;
      word = word;
      finest = subst (λ (p : ℕ). IsFinestFound s version says p found) page h.finest;
      read = subst (λ (n : ℕ). says (WordNote version found.slot n word)) place h.read;
      shown = refl;
    }

-- so what is known of each texel that is answered is known of those of a blend
pub blend_of_answers : (Of : Point → List ℕ → Type 0) (s : Shape) (d version : ℕ) (says : Note → Type 0) (k : ℕ) (at : Corners) (bytes : List ℕ)
    → ((p : Point) (texel : List ℕ) → IsAnswered s d version says p texel → Of p texel) → 1 ≤ s.tile → k < levels_of s
    → AreInside (side s.width k) (side s.height k) at → IsBlendAt s d version says k at bytes → IsBlendOf Of d k at bytes
blend_of_answers Of s d version says k at bytes known some level inside h =
    let t = h.texels in
    let of = h.served in
    record {
      texels = t;
      first = known _ _ (served_is_answered s d version says k at.column at.line t.first some (level, inside.column, inside.line) of.first);
      second = known _ _ (served_is_answered s d version says k at.next_column at.line t.second some (level, inside.next_column, inside.line) of.second);
      third = known _ _ (served_is_answered s d version says k at.column at.next_line t.third some (level, inside.column, inside.next_line) of.third);
      fourth =
          known _ _ (served_is_answered s d version says k at.next_column at.next_line t.fourth some (level, inside.next_column, inside.next_line) of.fourth);
      shown = h.shown;
    }
