-- What a row's level is, and where the places of level 0 lie in the others.
use Rattle.std.proofs.Common.{◌≡◌, ℕ, zero, suc, ◌-◌, ◌*◌, ◌/◌, ◌^◌, ◌<◌, ◌≤◌, ◌⊎◌, Bool, true, false, inl, inr, refl, sym, ap, ◌∙◌, ⊎_elim, subst, min, arith}
use Rattle.std.proofs.lemmas.Bool.{leb-true, leb-false, cases_lt}
use Rattle.std.proofs.lemmas.Nat.{pow_pos}
use Rattle.std.proofs.Math.Nat.{pow-le-pow_right, pow-suc, div-div-eq-div-mul}
use Rattle.std.specs.Prelude.{nat_le, if◌then◌else◌}
use Rattle.vt_text.specs.Sides.{side}
use Rattle.vt_camera.specs.declared.paths.Camera.{Camera}
use Rattle.vt_camera.specs.Rows.{level_within, camera_level, span, IsLevelOfSpan}

below_suc : (j k : ℕ) → j ≤ suc k → (j ≤ k) ⊎ (j ≡ suc k)
below_suc j k h = grind arith

-- one level more to choose from
one_more : (p k m : ℕ) (b : Bool) → nat_le (256 * 2 ^ suc k) p ≡ b → IsLevelOfSpan p k m → IsLevelOfSpan p (suc k) (if b then suc k else m)
one_more p k m true e known =
    record { exists = omega arith; fits = inr (leb-true _ _ e); greatest = λ j within fits. within }
one_more p k m false e known =
    let above : p < 256 * 2 ^ suc k = leb-false _ _ e in
    record {
      exists = omega (arith, known.exists);
      fits = known.fits;
      greatest =
          λ j within fits. ⊎_elim (λ (low : j ≤ k). known.greatest j low fits)
          (λ (same : j ≡ suc k). let larger : 256 * 2 ^ suc k ≤ p = (let P : ℕ → Type 0 = λ i. 256 * 2 ^ i ≤ p in subst P same fits) in absurd (omega arith))
          (below_suc j k within);
    }

pub level_within_is : (p last : ℕ) → IsLevelOfSpan p last (level_within p last)
level_within_is p zero = record { exists = omega arith; fits = inl refl; greatest = λ j within fits. within }
level_within_is p (suc k) = one_more p k (level_within p k) (nat_le (256 * 2 ^ suc k) p) refl (level_within_is p k)

no_larger : (p last k m : ℕ) → IsLevelOfSpan p last k → IsLevelOfSpan p last m → k ≤ m
no_larger p last k m a b = ⊎_elim (λ (none : k ≡ 0). omega arith) (λ (fits : 256 * 2 ^ k ≤ p). b.greatest k a.exists fits) a.fits

pub same_level : (p last k m : ℕ) → IsLevelOfSpan p last k → IsLevelOfSpan p last m → k ≡ m
same_level p last k m a b = omega (arith, no_larger p last k m a b, no_larger p last m k b a)

pub level_of_is : (camera : Camera) (y levels : ℕ) → IsLevelOfSpan (span camera y) (levels - 1) (camera_level camera y levels)
unfolding camera_level
level_of_is camera y levels = level_within_is (span camera y) (levels - 1)

pub level_of_within : (camera : Camera) (y levels : ℕ) → 1 ≤ levels → camera_level camera y levels < levels
level_of_within camera y levels some = omega (arith, (level_of_is camera y levels).exists)

-- a span below a texel of level 0
pub lowest : (p last : ℕ) → p / 256 ≡ 0 → level_within p last ≡ 0
lowest p last small = same_level p last _ 0 (level_within_is p last)
    (record { exists = omega arith; fits = inl refl; greatest = λ j within fits. absurd (omega (arith, pow_pos j)) })

pub exponent_below : (i j : ℕ) → 2 ^ j < 2 * 2 ^ i → j ≤ i
exponent_below i j h =
    ⊎_elim
    (λ (over : i < j). let more : 2 ^ suc i ≤ 2 ^ j = pow-le-pow_right (omega arith) over in absurd (omega (arith, pow-suc 2 i)))
    (λ (under : j ≤ i). under) (cases_lt i j)

-- the logarithm of the texels that a pixel spans, cut at the last level
pub by_logarithm : (p last r : ℕ) → 2 ^ r ≤ p / 256 → p / 256 < 2 * 2 ^ r → level_within p last ≡ min r last
by_logarithm p last r low high = same_level p last _ (min r last) (level_within_is p last) (record {
  exists = omega arith;
  fits = inr (let cut : 2 ^ min r last ≤ 2 ^ r = pow-le-pow_right (omega arith) (omega arith) in omega arith);
  greatest = λ j within fits. let under : j ≤ r = exponent_below r j (omega arith) in omega arith;
})

halved : (place k : ℕ) → place / 2 ^ suc k ≡ place / 2 ^ k / 2
halved place k = ap (λ (n : ℕ). place / n) (pow-suc 2 k) ∙ sym (div-div-eq-div-mul place (2 ^ k) 2)

pub inside_level : (width place k : ℕ) → place < width → place / 2 ^ k < side width k
inside_level width place zero h = omega arith
inside_level width place (suc k) h = omega (arith, halved place k, inside_level width place k h)
