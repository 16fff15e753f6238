-- The share of a distance that lies behind, and what is far off on the ground, as the code takes them.
use Rattle.std.proofs.Common.{◌≡◌, ℕ, ◌≤◌, ℤ, pos, negsuc, ◌*ℤ◌, to_z, of_z, to_z-of_z, FitsSigned, sym, refl, ap, ap₂, ◌∙◌, subst, arith}
use Rattle.std.specs.Prelude.{◌≤ℤ◌, unsigned_abs}
use Rattle.std.specs.Int.{w64, int_div_euclid}
use Rattle.std.proofs.lemmas.Int.{ints, fits_signed_from_abs}
use lib.Signed.{shr_z}
use Rattle.vt_text.specs.Numbers.{IsWithin}
use Rattle.vt_camera.specs.Rows.{floor_div}
use Rattle.vt_camera.proofs.Bits.{bits, across_bits}
use Rattle.vt_camera.proofs.Ground.{product_at_most}
use Rattle.vt_camera.proofs.Products.{product_value, product_small}
use Rattle.vt_camera.proofs.WayLemmas.{gone_limits}

-- what is shifted by fourteen bits is divided by their number
shifted : (z : ℤ) → shr_z z 16384 ≡ floor_div z 16384
shifted (pos a) = refl
shifted (negsuc a) = refl

floor_low : (z : ℤ) → unsigned_abs z ≤ 1125899906842624 → negsuc 68719476735 ≤ℤ floor_div z 16384
floor_low (pos a) small = omega (arith, ints)
floor_low (negsuc a) small = omega (arith, ints)

floor_high : (z : ℤ) → unsigned_abs z ≤ 1125899906842624 → floor_div z 16384 ≤ℤ pos 68719476736
floor_high (pos a) small = omega (arith, ints)
floor_high (negsuc a) small = omega (arith, ints)

pub far_low : (n : ℕ) (d : ℤ) → n ≤ 68719476736 → negsuc 16383 ≤ℤ d → d ≤ℤ pos 16384 → negsuc 68719476735 ≤ℤ floor_div (pos n *ℤ d) 16384
far_low n d few low high = floor_low (pos n *ℤ d) (product_small n 68719476736 d few low high)

pub far_high : (n : ℕ) (d : ℤ) → n ≤ 68719476736 → negsuc 16383 ≤ℤ d → d ≤ℤ pos 16384 → floor_div (pos n *ℤ d) 16384 ≤ℤ pos 68719476736
far_high n d few low high = floor_high (pos n *ℤ d) (product_small n 68719476736 d few low high)

pub far_value : (n : ℕ) (d : ℤ) → n ≤ 68719476736 → negsuc 16383 ≤ℤ d → d ≤ℤ pos 16384
    → bits (shr_z (bits (to_z w64 n *ℤ bits d)) 16384) ≡ floor_div (pos n *ℤ d) 16384
far_value n d few low high =
    let l = far_low n d few low high in
    let h = far_high n d few low high in
    ap (λ (z : ℤ). bits (shr_z z 16384)) (product_value n d few low high) ∙ ap bits (shifted (pos n *ℤ d))
    ∙ across_bits (floor_div (pos n *ℤ d) 16384) (omega (arith, ints)) (omega (arith, ints))

-- a distance between two places of the ground
abbrev pub IsDistance : ℤ → Type 0
IsDistance d = IsWithin (negsuc 4294967295) (pos 4294967296) d

pub step_bits : (r : ℤ) (i : ℕ) → r ≡ pos i → i ≤ 9999 → bits r ≡ pos i
step_bits r i e few = ap bits e ∙ across_bits (pos i) (omega (arith, ints)) (omega (arith, ints))

step_product : (d r : ℤ) (i : ℕ) → IsDistance d → r ≡ pos i → i ≤ 9999 → bits d *ℤ bits r ≡ d *ℤ pos i
step_product d r i within e few =
    let same = across_bits d (omega (arith, ints, within.0)) (omega (arith, ints, within.1)) in
    ap (λ (z : ℤ). z *ℤ bits r) same ∙ ap (λ (z : ℤ). d *ℤ z) (step_bits r i e few)

step_fits : (d : ℤ) (i : ℕ) → IsDistance d → i ≤ 9999 → FitsSigned w64 (d *ℤ pos i)
step_fits d i within few =
    let f : unsigned_abs d ≤ 4294967296 = omega (arith, ints, within.0, within.1) in
    let g : unsigned_abs (pos i) ≤ 9999 = omega (arith, ints) in
    fits_signed_from_abs w64 (d *ℤ pos i) (omega (arith, product_at_most d (pos i) 4294967296 9999 f g))

pub share_fits : (d r : ℤ) (i n : ℕ) → IsDistance d → r ≡ pos i → i ≤ n → n ≤ 9999 → FitsSigned w64 (bits d *ℤ bits r)
share_fits d r i n within e below few =
    let some : i ≤ 9999 = omega arith in
    subst (FitsSigned w64) (sym (step_product d r i within e some)) (step_fits d i within some)

-- few steps are not the number that is no divisor of the least
pub few_steps : (r : ℤ) (n : ℕ) → r ≡ pos n → n ≤ 9999 → of_z w64 (bits r) ≡ 18446744073709551615 → ⊥
few_steps r n e few is =
    let same : of_z w64 (pos n) ≡ n = omega (arith, ints) in
    let h : n ≡ 18446744073709551615 = sym (ap (of_z w64) (step_bits r n e few) ∙ same) ∙ is in
    omega arith

pub share_value : (d r s q : ℤ) (i n : ℕ) → IsDistance d → r ≡ pos i → s ≡ pos n → i ≤ n → n ≤ 9999
    → q ≡ int_div_euclid (bits (bits d *ℤ bits r)) (bits s) → bits q ≡ floor_div (d *ℤ pos i) n
share_value d r s q i n within e f below few is =
    let some : i ≤ 9999 = omega arith in
    let whole : bits (bits d *ℤ bits r) ≡ d *ℤ pos i = ap bits (step_product d r i within e some) ∙ to_z-of_z (step_fits d i within some) in
    let limits = gone_limits d i n below (negsuc 4294967295) (pos 4294967296) (omega (arith, ints)) (omega (arith, ints)) within in
    ap bits (is ∙ ap₂ int_div_euclid whole (step_bits s n f few))
    ∙ across_bits (floor_div (d *ℤ pos i) n) (omega (arith, ints, limits.0)) (omega (arith, ints, limits.1))
