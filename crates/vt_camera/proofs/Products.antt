-- The product of a natural number and a direction, as the code takes it.
use Rattle.std.proofs.Common.{◌≡◌, ℕ, ◌*◌, ◌≤◌, ℤ, pos, negsuc, ◌*ℤ◌, to_z, to_z-of_z, FitsSigned, sym, ap, ◌∙◌, subst, arith}
use Rattle.std.specs.Prelude.{◌≤ℤ◌, unsigned_abs}
use Rattle.std.specs.Int.{w64}
use Rattle.std.proofs.lemmas.Int.{ints, fits_signed_from_abs}
use Rattle.vt_camera.proofs.Bits.{bits, direction_bits}
use Rattle.vt_camera.proofs.Ground.{product_at_most}

-- a natural number within the distances as its bits are read
natural_bits : (n : ℕ) → n ≤ 68719476736 → to_z w64 n ≡ pos n
natural_bits n few = omega (arith, ints)

pub natural_fits : (n : ℕ) → n ≤ 68719476736 → FitsSigned w64 (pos n)
natural_fits n few = omega (arith, ints)

-- the product of the bits is that of the numbers
product_is : (n : ℕ) (d : ℤ) → n ≤ 68719476736 → negsuc 16383 ≤ℤ d → d ≤ℤ pos 16384 → to_z w64 n *ℤ bits d ≡ pos n *ℤ d
product_is n d few low high = ap (λ (z : ℤ). z *ℤ bits d) (natural_bits n few) ∙ ap (λ (z : ℤ). pos n *ℤ z) (direction_bits d low high)

pub product_small : (n most : ℕ) (d : ℤ) → n ≤ most → negsuc 16383 ≤ℤ d → d ≤ℤ pos 16384 → unsigned_abs (pos n *ℤ d) ≤ most * 16384
product_small n most d few low high =
    let f : unsigned_abs (pos n) ≤ most = omega (arith, ints) in
    let g : unsigned_abs d ≤ 16384 = omega (arith, ints) in
    product_at_most (pos n) d most 16384 f g

whole_fits : (n : ℕ) (d : ℤ) → n ≤ 68719476736 → negsuc 16383 ≤ℤ d → d ≤ℤ pos 16384 → FitsSigned w64 (pos n *ℤ d)
whole_fits n d few low high = fits_signed_from_abs w64 (pos n *ℤ d) (omega (arith, product_small n 68719476736 d few low high))

pub product_fits : (n : ℕ) (d : ℤ) → n ≤ 68719476736 → negsuc 16383 ≤ℤ d → d ≤ℤ pos 16384 → FitsSigned w64 (to_z w64 n *ℤ bits d)
product_fits n d few low high = subst (FitsSigned w64) (sym (product_is n d few low high)) (whole_fits n d few low high)

pub product_value : (n : ℕ) (d : ℤ) → n ≤ 68719476736 → negsuc 16383 ≤ℤ d → d ≤ℤ pos 16384 → bits (to_z w64 n *ℤ bits d) ≡ pos n *ℤ d
product_value n d few low high = ap bits (product_is n d few low high) ∙ to_z-of_z (whole_fits n d few low high)

low_of_abs : (z : ℤ) → unsigned_abs z ≤ 274877906944 → negsuc 274877906943 ≤ℤ z
low_of_abs z small = omega (arith, ints)

high_of_abs : (z : ℤ) → unsigned_abs z ≤ 274877906944 → z ≤ℤ pos 274877906944
high_of_abs z small = omega (arith, ints)

pub product_low : (n : ℕ) (d : ℤ) → n ≤ 16777216 → negsuc 16383 ≤ℤ d → d ≤ℤ pos 16384 → negsuc 274877906943 ≤ℤ (pos n *ℤ d)
product_low n d few low high = low_of_abs (pos n *ℤ d) (product_small n 16777216 d few low high)

pub product_high : (n : ℕ) (d : ℤ) → n ≤ 16777216 → negsuc 16383 ≤ℤ d → d ≤ℤ pos 16384 → (pos n *ℤ d) ≤ℤ pos 274877906944
product_high n d few low high = high_of_abs (pos n *ℤ d) (product_small n 16777216 d few low high)
