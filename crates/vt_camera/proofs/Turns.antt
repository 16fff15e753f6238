-- Sums that a row's middle is made of, and how far off it a pixel lies, as the code takes them.
use Rattle.std.proofs.Common.{◌≡◌, ℕ, ◌+◌, ◌*◌, ◌/◌, ◌<◌, ◌≤◌, ℤ, pos, negsuc, ◌+ℤ◌, ◌-ℤ◌, ◌*ℤ◌, to_z, FitsSigned, sym, ap, ap₂, ◌∙◌, subst, arith}
use Rattle.std.specs.Prelude.{◌≤ℤ◌}
use Rattle.std.specs.Int.{w64}
use Rattle.std.proofs.lemmas.Int.{ints}
use Rattle.vt_camera.specs.RowParts.{whole_turns}
use Rattle.vt_camera.proofs.Bits.{bits, place_bits, across_bits, middle_bits}
use Rattle.vt_camera.proofs.Shares.{step_bits}

-- whole turns of a side within the limits
turned : (s : ℕ) → 1 ≤ s → s ≤ 16384 → (274877906944 ≤ whole_turns s) × (whole_turns s ≤ 274882101248)
turned s some few = (omega arith, omega arith)

pub turns_same : (a b s : ℕ) → a ≡ s → b ≡ s → (1073741824 / a + 1) * (256 * b) ≡ whole_turns s
turns_same a b s e f = ap₂ (λ (x y : ℕ). (1073741824 / x + 1) * (256 * y)) e f

pub turns_low : (a b s : ℕ) → a ≡ s → b ≡ s → 1 ≤ s → s ≤ 16384 → 274877906944 ≤ (1073741824 / a + 1) * (256 * b)
turns_low a b s e f some few = subst (λ (n : ℕ). 274877906944 ≤ n) (sym (turns_same a b s e f)) (turned s some few).0

pub turns_high : (a b s : ℕ) → a ≡ s → b ≡ s → 1 ≤ s → s ≤ 16384 → (1073741824 / a + 1) * (256 * b) ≤ 274882101248
turns_high a b s e f some few = subst (λ (n : ℕ). n ≤ 274882101248) (sym (turns_same a b s e f)) (turned s some few).1

pub turn_fits : (n : ℕ) → n ≤ 274882101248 → FitsSigned w64 (pos n)
turn_fits n few = omega (arith, ints)

pub turn_bits : (n : ℕ) → n ≤ 274882101248 → to_z w64 n ≡ pos n
turn_bits n few = omega (arith, ints)

pub turn_low : (n : ℕ) → 274877906944 ≤ n → n ≤ 274882101248 → pos 274877906944 ≤ℤ to_z w64 n
turn_low n low high = subst (λ (z : ℤ). pos 274877906944 ≤ℤ z) (sym (turn_bits n high)) (omega (arith, ints))

pub turn_high : (n : ℕ) → n ≤ 274882101248 → to_z w64 n ≤ℤ pos 274882101248
turn_high n high = subst (λ (z : ℤ). z ≤ℤ pos 274882101248) (sym (turn_bits n high)) (omega (arith, ints))

-- a place of the ground
pub record IsPlace (p : ℤ) : Type 0 where
  pub low : negsuc 2147483647 ≤ℤ p
  pub high : p ≤ℤ pos 2147483648

-- what may be far off
pub record IsFar (f : ℤ) : Type 0 where
  pub low : negsuc 68719476735 ≤ℤ f
  pub high : f ≤ℤ pos 68719476736

-- whole turns
pub record AreTurns (t : ℤ) : Type 0 where
  pub low : pos 274877906944 ≤ℤ t
  pub high : t ≤ℤ pos 274882101248

near : (p f : ℤ) → IsPlace p → IsFar f → bits p +ℤ bits f ≡ p +ℤ f
near p f a b = ap₂ ◌+ℤ◌ (place_bits p a.low a.high) (across_bits f (omega (arith, ints, b.low)) (omega (arith, ints, b.high)))

near_fits : (z : ℤ) → negsuc 274877906943 ≤ℤ z → z ≤ℤ pos 274877906944 → FitsSigned w64 z
near_fits z low high = omega (arith, ints)

pub near_sum_fits : (p f : ℤ) → IsPlace p → IsFar f → FitsSigned w64 (bits p +ℤ bits f)
near_sum_fits p f a b =
    subst (FitsSigned w64) (sym (near p f a b))
    (near_fits (p +ℤ f) (omega (arith, ints, a.low, b.low)) (omega (arith, ints, a.high, b.high)))

-- the sum that makes the middle
whole : (p f t : ℤ) → IsPlace p → IsFar f → AreTurns t → bits (bits p +ℤ bits f) +ℤ bits t ≡ p +ℤ f +ℤ t
whole p f t a b c =
    let same : bits (p +ℤ f) ≡ p +ℤ f = across_bits (p +ℤ f) (omega (arith, ints, a.low, b.low)) (omega (arith, ints, a.high, b.high)) in
    ap₂ ◌+ℤ◌ (ap bits (near p f a b) ∙ same) (middle_bits t (omega (arith, ints, c.low)) (omega (arith, ints, c.high)))

pub sum_low : (p f t : ℤ) → IsPlace p → IsFar f → AreTurns t → pos 137438953472 ≤ℤ (p +ℤ f +ℤ t)
sum_low p f t a b c = omega (arith, ints, a.low, b.low, c.low)

pub sum_high : (p f t : ℤ) → IsPlace p → IsFar f → AreTurns t → (p +ℤ f +ℤ t) ≤ℤ pos 412316860416
sum_high p f t a b c = omega (arith, ints, a.high, b.high, c.high)

middle_fits : (z : ℤ) → pos 137438953472 ≤ℤ z → z ≤ℤ pos 412316860416 → FitsSigned w64 z
middle_fits z low high = omega (arith, ints)

pub sum_fits : (p f t : ℤ) → IsPlace p → IsFar f → AreTurns t → FitsSigned w64 (bits (bits p +ℤ bits f) +ℤ bits t)
sum_fits p f t a b c = subst (FitsSigned w64) (sym (whole p f t a b c)) (middle_fits (p +ℤ f +ℤ t) (sum_low p f t a b c) (sum_high p f t a b c))

pub sum_same : (p f t : ℤ) → IsPlace p → IsFar f → AreTurns t → bits (bits (bits p +ℤ bits f) +ℤ bits t) ≡ p +ℤ f +ℤ t
sum_same p f t a b c = ap bits (whole p f t a b c) ∙ middle_bits (p +ℤ f +ℤ t) (sum_low p f t a b c) (sum_high p f t a b c)

-- twice a column, and the half pixel behind it
twice : (r : ℤ) (x : ℕ) → r ≡ pos x → x < 2048 → pos 2 *ℤ bits r ≡ pos (2 * x)
twice r x e few = let same : pos 2 *ℤ pos x ≡ pos (2 * x) = omega (arith, ints) in ap (λ (z : ℤ). pos 2 *ℤ z) (step_bits r x e (omega arith)) ∙ same

few_fits : (n : ℕ) → n ≤ 9999 → FitsSigned w64 (pos n)
few_fits n few = omega (arith, ints)

pub twice_fits : (r : ℤ) (x : ℕ) → r ≡ pos x → x < 2048 → FitsSigned w64 (pos 2 *ℤ bits r)
twice_fits r x e few = subst (FitsSigned w64) (sym (twice r x e few)) (few_fits (2 * x) (omega arith))

odd : (r : ℤ) (x : ℕ) → r ≡ pos x → x < 2048 → bits (pos 2 *ℤ bits r) +ℤ pos 1 ≡ pos (2 * x + 1)
odd r x e few =
    let same : pos (2 * x) +ℤ pos 1 ≡ pos (2 * x + 1) = omega (arith, ints) in
    ap (λ (z : ℤ). z +ℤ pos 1) (step_bits (pos 2 *ℤ bits r) (2 * x) (twice r x e few) (omega arith)) ∙ same

pub odd_fits : (r : ℤ) (x : ℕ) → r ≡ pos x → x < 2048 → FitsSigned w64 (bits (pos 2 *ℤ bits r) +ℤ pos 1)
odd_fits r x e few = subst (FitsSigned w64) (sym (odd r x e few)) (few_fits (2 * x + 1) (omega arith))

off : (r s : ℤ) (x w : ℕ) → r ≡ pos x → s ≡ pos w → x < w → w ≤ 2048
    → bits (bits (pos 2 *ℤ bits r) +ℤ pos 1) -ℤ bits s ≡ pos (2 * x + 1) -ℤ pos w
off r s x w e f below few =
    ap₂ ◌-ℤ◌ (step_bits (bits (pos 2 *ℤ bits r) +ℤ pos 1) (2 * x + 1) (odd r x e (omega arith)) (omega arith)) (step_bits s w f (omega arith))

pub off_least : (x w : ℕ) → x < w → w ≤ 2048 → negsuc 2046 ≤ℤ (pos (2 * x + 1) -ℤ pos w)
off_least x w below few = omega (arith, ints)

pub off_most : (x w : ℕ) → x < w → w ≤ 2048 → (pos (2 * x + 1) -ℤ pos w) ≤ℤ pos 2047
off_most x w below few = omega (arith, ints)

pub off_fits : (r s : ℤ) (x w : ℕ) → r ≡ pos x → s ≡ pos w → x < w → w ≤ 2048
    → FitsSigned w64 (bits (bits (pos 2 *ℤ bits r) +ℤ pos 1) -ℤ bits s)
off_fits r s x w e f below few =
    let low = off_least x w below few in
    let high = off_most x w below few in
    subst (FitsSigned w64) (sym (off r s x w e f below few))
    (near_fits (pos (2 * x + 1) -ℤ pos w) (omega (arith, ints, low)) (omega (arith, ints, high)))

pub off_value : (r s : ℤ) (x w : ℕ) → r ≡ pos x → s ≡ pos w → x < w → w ≤ 2048
    → bits (bits (bits (pos 2 *ℤ bits r) +ℤ pos 1) -ℤ bits s) ≡ pos (2 * x + 1) -ℤ pos w
off_value r s x w e f below few =
    let low = off_least x w below few in
    let high = off_most x w below few in
    ap bits (off r s x w e f below few) ∙ across_bits (pos (2 * x + 1) -ℤ pos w) (omega (arith, ints, low)) (omega (arith, ints, high))
