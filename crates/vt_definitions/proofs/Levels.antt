-- Where the halving of sides ends.
use Rattle.std.proofs.Common.{◌≡◌, ℕ, zero, suc, ◌+◌, ◌-◌, ◌≤◌, Bool, true, false, refl, sym, ap, ◌∙◌, add-zero, arith}
use Rattle.std.proofs.lemmas.Bool.{false≢true}
use Rattle.std.specs.Prelude.{max}
use Rattle.std.proofs.lemmas.Bool.Decides.{nat_tests}
use Rattle.vt_definitions.specs.Sides.{side, fits_tile, first_fit, level_count, IsLevelCount}

-- a side falls at each halving, down to one
pub side_at_most : (w k : ℕ) → side w k ≤ max 1 (w - k)
side_at_most w zero = omega arith
side_at_most w (suc k) = omega (arith, side_at_most w k)

pub side_at_least : (w k : ℕ) → 1 ≤ w → 1 ≤ side w k
side_at_least w zero some = some
side_at_least w (suc k) some = omega (arith, side_at_least w k some)

tile_test : (w h t k : ℕ) → fits_tile w h t k ≡ true → (side w k ≤ t) × (side h k ≤ t)
tile_test w h t k passes = (grind (arith, nat_tests), grind (arith, nat_tests))

tile_fits : (w h t k : ℕ) → side w k ≤ t → side h k ≤ t → fits_tile w h t k ≡ true
tile_fits w h t k wide high = grind (arith, nat_tests)

past : (k j : ℕ) → k ≤ j → (k ≡ j → ⊥) → k + 1 ≤ j
past k j from apart = grind arith

-- the first level that fits does fit, where one of those that are tried does
pub first_fits : (rest w h t k : ℕ) → fits_tile w h t (k + rest) ≡ true → fits_tile w h t (first_fit rest w h t k) ≡ true
first_fits zero w h t k last = rw add-zero at last
first_fits (suc rest) w h t k last = step
    (first_fits rest w h t (k + 1) (let same : k + suc rest ≡ k + 1 + rest = omega arith in rw same at last)) (fits_tile w h t k) refl where
      step : fits_tile w h t (first_fit rest w h t (k + 1)) ≡ true → (b : Bool) → fits_tile w h t k ≡ b
          → fits_tile w h t (elim b as (λ x. ℕ) [ true ↦ k | false ↦ first_fit rest w h t (k + 1) ]) ≡ true
      step later true e = e
      step later false e = later

-- no level before it does
pub first_is_least : (rest w h t k j : ℕ) → k ≤ j → fits_tile w h t j ≡ true → first_fit rest w h t k ≤ j
first_is_least zero w h t k j from fits = from
first_is_least (suc rest) w h t k j from fits = step (λ after. first_is_least rest w h t (k + 1) j after fits) (fits_tile w h t k) refl where
  step : (k + 1 ≤ j → first_fit rest w h t (k + 1) ≤ j) → (b : Bool) → fits_tile w h t k ≡ b
      → elim b as (λ x. ℕ) [ true ↦ k | false ↦ first_fit rest w h t (k + 1) ] ≤ j
  step later true e = from
  step later false e = later (past k j from (λ (same : k ≡ j). false≢true (sym e ∙ ap (fits_tile w h t) same ∙ fits)))

pub level_count_least : (w h t : ℕ) → 1 ≤ t → IsLevelCount w h t (level_count w h t)
unfolding level_count
level_count_least w h t some =
    let last : fits_tile w h t (0 + (w + h)) ≡ true =
    tile_fits w h t (0 + (w + h)) (omega (arith, side_at_most w (0 + (w + h)))) (omega (arith, side_at_most h (0 + (w + h)))) in
    let fits = tile_test w h t (first_fit (w + h) w h t 0) (first_fits (w + h) w h t 0 last) in
    let here : first_fit (w + h) w h t 0 + 1 - 1 ≡ first_fit (w + h) w h t 0 = omega arith in
    record {
      some = omega arith;
      last_width = rw here fits.0;
      last_height = rw here fits.1;
      least = λ k wide high. let j : first_fit (w + h) w h t 0 ≤ k = first_is_least (w + h) w h t 0 k (omega arith)
          (tile_fits w h t k wide high) in omega arith;
    }
