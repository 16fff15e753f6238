-- Numbers that leave the same by a number.
use Rattle.std.proofs.Common.{◌≡◌, ℕ, ◌+◌, ◌*◌, ◌/◌, ◌%◌, ◌≤◌, ◌<◌, inl, inr, ap, ◌∙◌, arith}
use Rattle.std.proofs.lemmas.Nat.{div-add-mod', mod-mul-add, mod_below, mul-le}
use Rattle.std.proofs.lemmas.Bool.{cases_lt}

-- the smaller of two such numbers has the smaller quotient
pub quotient_before : (n y z : ℕ) → z % n ≡ y % n → z < y → z / n + 1 ≤ y / n
quotient_before n y z same below =
    elim (cases_lt (z / n) (y / n)) [
      | inl less ↦ omega arith
      | inr past ↦ absurd (omega (arith, div-add-mod' z n, div-add-mod' y n, mul-le (y / n) n (z / n) n past (omega arith)))
    ]

-- and they lie at least that number apart
pub apart : (n y z : ℕ) → z % n ≡ y % n → z < y → z + n ≤ y
apart n y z same below =
    omega (arith, div-add-mod' z n, div-add-mod' y n, mul-le (z / n + 1) n (y / n) n (quotient_before n y z same below) (omega arith))

-- a number below it leaves itself
pub rest_small : (n k : ℕ) → k < n → k % n ≡ k
rest_small n k below = let e : k ≡ 0 * n + k = omega arith in ap (λ i. i % n) e ∙ mod-mul-add 0 n k below

pub quotient_from : (q n m : ℕ) → 1 ≤ n → q * n ≤ m → q ≤ m / n
quotient_from q n m some low =
    elim (cases_lt (m / n) q) [
      | inl less ↦ absurd (omega (arith, div-add-mod' m n, mod_below m n some, mul-le (m / n + 1) n q n (omega arith) (omega arith)))
      | inr done ↦ done
    ]
