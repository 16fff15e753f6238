-- Rows are dealt once, and as many as are counted.
use Rattle.std.proofs.Common.{◌≡◌, ℕ, ◌+◌, ◌-◌, ◌*◌, ◌/◌, ◌%◌, ◌≤◌, ◌<◌, ◌↔◌, inl, inr, arith}
use Rattle.std.proofs.lemmas.Nat.{div-add-mod', div-mul-add, mod-mul-add, mul-le}
use Rattle.std.proofs.lemmas.Bool.{cases_lt}
use Rattle.vt_definitions.proofs.Quotients.{quotient_from}

pub row_is : (y n : ℕ) → y / n * n + y % n ≡ y
row_is y n = omega (arith, div-add-mod' y n)

pub sampler_is : (k turn n : ℕ) → k < n → (turn * n + k) % n ≡ k
sampler_is k turn n one = mod-mul-add turn n k one

pub turn_is : (k turn n : ℕ) → k < n → (turn * n + k) / n ≡ turn
turn_is k turn n one = div-mul-add turn n k one

-- a sampler's row is one of so many exactly where its turn is one of the sampler's
pub turns_end : (k turn n h : ℕ) → k < n → (turn * n + k < h) ↔ (turn < (h + n - 1 - k) / n)
turns_end k turn n h one =
    let q : ℕ = h + n - 1 - k in (
      (λ inside. let first : turn + 1 ≤ q / n = quotient_from (turn + 1) n q (omega arith) (omega (arith, inside)) in omega (arith, first)),
      (λ less. omega (arith, less, div-add-mod' q n, mul-le (turn + 1) n (q / n) n (omega (arith, less)) (omega arith))),
    )

-- a sampler has no more rows than there are
pub count_most : (k n h : ℕ) → k < n → (h + n - 1 - k) / n ≤ h
count_most k n h one =
    let q : ℕ = h + n - 1 - k in
    elim (cases_lt h (q / n)) [
      | inl more ↦ absurd (omega (
        arith,
        div-add-mod' q n,
        mul-le (h + 1) n (q / n) n (omega (arith, more)) (omega arith),
        mul-le h 1 h n (omega arith) (omega arith),
      ))
      | inr done ↦ done
    ]

-- the turns past a sampler's last begin past the rows
pub turns_over : (k turn n h : ℕ) → k < n → (h + n - 1 - k) / n ≤ turn → h ≤ turn * n + k
turns_over k turn n h one past =
    elim (cases_lt (turn * n + k) h) [
      | inl less ↦ absurd (omega (arith, past, (turns_end k turn n h one).0 less))
      | inr done ↦ done
    ]

-- and those of its turns are among them
pub turns_within : (k turn n h z : ℕ) → k < n → turn ≤ (h + n - 1 - k) / n → z < turn * n + k → z % n ≡ k → z < h
turns_within k turn n h z one few below own =
    let is : z / n * n + k ≡ z = omega (arith, own, row_is z n) in
    let before : z / n < turn =
    elim (cases_lt (z / n) turn) [
      | inl less ↦ less
      | inr past ↦ absurd (omega (arith, is, below, mul-le turn n (z / n) n past (omega arith)))
    ] in
    omega (arith, is, (turns_end k (z / n) n h one).1 (omega (arith, before, few)))

-- the same of the count of a height that is another's
pub dealt_inside : (k turn n h height rows y : ℕ) → k < n → height ≡ h → rows ≡ (height + n - 1 - k) / n → turn < rows → y ≡ turn * n + k → y < h
dealt_inside k turn n h height rows y one same count below is =
    let low : turn < (height + n - 1 - k) / n = omega (arith, below, count) in
    omega (arith, is, same, (turns_end k turn n height one).1 low)

pub dealt_within : (k turn n h height rows z : ℕ) → k < n → height ≡ h → rows ≡ (height + n - 1 - k) / n → turn ≤ rows → z < turn * n + k → z % n ≡ k
    → z < h
dealt_within k turn n h height rows z one same count few below own =
    omega (arith, same, turns_within k turn n height z one (omega (arith, few, count)) below own)

pub all_dealt : (k turn n h height rows : ℕ) → k < n → height ≡ h → rows ≡ (height + n - 1 - k) / n → rows ≤ turn → h ≤ turn * n + k
all_dealt k turn n h height rows one same count past = omega (arith, same, turns_over k turn n height one (omega (arith, past, count)))
