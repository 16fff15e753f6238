-- Numbers within the bounds that a row's numbers keep are what their bits say.
use Rattle.std.proofs.Common.{◌≡◌, ℤ, pos, negsuc, ◌+ℤ◌, to_z, of_z, FitsSigned, sym, subst, arith}
use Rattle.std.specs.Prelude.{◌≤ℤ◌}
use Rattle.std.specs.Int.{w64}
use Rattle.std.proofs.lemmas.Int.{ints}
use Rattle.vt_text.specs.Numbers.{IsWithin}

-- a number as its bits are read
abbrev pub bits : ℤ → ℤ
bits z = to_z w64 (of_z w64 z)

pub at_least : (low z : ℤ) → bits z ≡ z → low ≤ℤ z → low ≤ℤ bits z
at_least low z e h = subst (λ (x : ℤ). low ≤ℤ x) (sym e) h

pub at_most : (high z : ℤ) → bits z ≡ z → z ≤ℤ high → bits z ≤ℤ high
at_most high z e h = subst (λ (x : ℤ). x ≤ℤ high) (sym e) h

pub place_bits : (z : ℤ) → negsuc 2147483647 ≤ℤ z → z ≤ℤ pos 2147483648 → bits z ≡ z
place_bits z low high = omega (arith, ints)

pub direction_bits : (z : ℤ) → negsuc 16383 ≤ℤ z → z ≤ℤ pos 16384 → bits z ≡ z
direction_bits z low high = omega (arith, ints)

-- a camera's numbers as their bits are read are within the limits of places
pub place_limits : (z : ℤ) → negsuc 2147483647 ≤ℤ z → z ≤ℤ pos 2147483648 → IsWithin (negsuc 2147483647) (pos 2147483648) (bits z)
place_limits z low high = (at_least (negsuc 2147483647) z (place_bits z low high) low, at_most (pos 2147483648) z (place_bits z low high) high)

pub height_limits : (z : ℤ) → pos 1 ≤ℤ z → z ≤ℤ pos 16777216 → IsWithin (negsuc 2147483647) (pos 2147483648) (bits z)
height_limits z low high = place_limits z (omega (arith, ints)) (omega (arith, ints))

pub direction_limits : (z : ℤ) → negsuc 16383 ≤ℤ z → z ≤ℤ pos 16384 → IsWithin (negsuc 2147483647) (pos 2147483648) (bits z)
direction_limits z low high = place_limits z (omega (arith, ints)) (omega (arith, ints))

pub across_bits : (z : ℤ) → negsuc 274877906943 ≤ℤ z → z ≤ℤ pos 274877906944 → bits z ≡ z
across_bits z low high = omega (arith, ints)

pub middle_bits : (z : ℤ) → pos 137438953472 ≤ℤ z → z ≤ℤ pos 412316860416 → bits z ≡ z
middle_bits z low high = omega (arith, ints)

pub finer_same : (z : ℤ) → pos 4503599627370496 ≤ℤ z → z ≤ℤ pos 13510798882111488 → bits z ≡ z
finer_same z low high = omega (arith, ints)

pub finer_low : (z : ℤ) → pos 4503599627370496 ≤ℤ z → z ≤ℤ pos 13510798882111488 → pos 4503599627370496 ≤ℤ bits z
finer_low z low high = at_least (pos 4503599627370496) z (finer_same z low high) low

-- a finer middle, and one part short of the place after it
pub further_fits : (z : ℤ) → pos 4503599627370496 ≤ℤ z → z ≤ℤ pos 13510798882111488 → FitsSigned w64 (bits z +ℤ pos 32767)
further_fits z low high = omega (arith, ints)

pub further_bits : (z : ℤ) → pos 4503599627370496 ≤ℤ z → z ≤ℤ pos 13510798882111488 → bits (bits z +ℤ pos 32767) ≡ z +ℤ pos 32767
further_bits z low high = omega (arith, ints)

pub further_low : (z : ℤ) → pos 4503599627370496 ≤ℤ z → z ≤ℤ pos 13510798882111488 → pos 4503599627370496 ≤ℤ bits (bits z +ℤ pos 32767)
further_low z low high = omega (arith, ints)

pub further_high : (z : ℤ) → pos 4503599627370496 ≤ℤ z → z ≤ℤ pos 13510798882111488 → bits (bits z +ℤ pos 32767) ≤ℤ pos 13510798882144255
further_high z low high = omega (arith, ints)

pub finer_high : (z : ℤ) → pos 4503599627370496 ≤ℤ z → z ≤ℤ pos 13510798882111488 → bits z ≤ℤ pos 13510798882144255
finer_high z low high = omega (arith, ints)

-- how far off a picture's middle a pixel lies
pub off_same : (z : ℤ) → negsuc 2046 ≤ℤ z → z ≤ℤ pos 2047 → bits z ≡ z
off_same z low high = omega (arith, ints)

pub off_low : (z : ℤ) → negsuc 2046 ≤ℤ z → z ≤ℤ pos 2047 → negsuc 2046 ≤ℤ bits z
off_low z low high = at_least (negsuc 2046) z (off_same z low high) low

pub off_high : (z : ℤ) → negsuc 2046 ≤ℤ z → z ≤ℤ pos 2047 → bits z ≤ℤ pos 2047
off_high z low high = at_most (pos 2047) z (off_same z low high) high
