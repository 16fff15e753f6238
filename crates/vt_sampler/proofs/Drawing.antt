-- One row more of a sampler.
use Rattle.std.proofs.Common.{◌≡◌, ℕ, ◌+◌, ◌-◌, ◌*◌, ◌/◌, ◌%◌, ◌≤◌, ◌<◌, ◌⊎◌, inl, inr, List, length, sym, ap, ◌∙◌, subst, arith}
use Rattle.std.specs.Prelude.{slice_range}
use Rattle.std.proofs.lemmas.List.{drop-take}
use Rattle.std.proofs.lemmas.Nat.{mul-le}
use Rattle.std.proofs.lemmas.Bool.{cases_lt}
use Rattle.std.proofs.lemmas.Slice.{take-put_mid_below, between-put_mid}
use Rattle.std.proofs.Math.ListN.{take, drop}
use borrow.Rule.Slice.PartMut.{put_mid}
use Rattle.vt_sampler.specs.Samplers.{row_in}
use Rattle.vt_definitions.proofs.Quotients.{quotient_before, apart}

-- what is before a piece that is written
before_mid : (at k : ℕ) (xs ys : List ℕ) (i j : ℕ) → at ≤ length xs → i ≤ j → j ≤ at
    → slice_range (put_mid at k xs ys) i j ≡ slice_range xs i j
before_mid at k xs ys i j room low high =
    let e : i + (j - i) ≡ j = omega arith in
    sym (drop-take i (j - i) (put_mid at k xs ys))
    ∙ ap (λ n. drop i (take n (put_mid at k xs ys))) e
    ∙ ap (drop i) (take-put_mid_below at k xs ys j high room)
    ∙ ap (λ n. drop i (take n xs)) (sym e)
    ∙ drop-take i (j - i) xs

-- the rows up to one that is written are as they were, and this one is what is written
pub rows_after : (P : ℕ → List ℕ → Type 0) (n line at k y : ℕ) (old new : List ℕ) → at ≡ y / n * line → at + line ≤ length old
    → length new ≡ line
    → P y new → ((z : ℕ) → z < y → z % n ≡ y % n → P z (row_in n line old z))
    → (z : ℕ) → z < y + n → z % n ≡ y % n → P z (row_in n line (put_mid at k old new) z)
rows_after P n line at k y old new place room full here before z below own = step (cases_lt z y) where
  step : (z < y) ⊎ (y ≤ z) → P z (row_in n line (put_mid at k old new) z)
  step (inl less) =
      let low : z / n * line + line ≤ at = omega (arith, place, mul-le (z / n + 1) line (y / n) line (quotient_before n y z own less) (omega arith)) in
      subst (P z) (sym (before_mid at k old new (z / n * line) (z / n * line + line) (omega arith) (omega arith) low)) (before z less own)
  step (inr past) =
      elim (cases_lt y z) [
        | inl more ↦ absurd (omega (arith, apart n z y (sym own) more))
        | inr last ↦
            let same : y ≡ z = omega arith in
            let there : slice_range (put_mid at k old new) at (at + line) ≡ new = between-put_mid at k old new (at + line) (omega arith) (omega arith) in
            let row : row_in n line (put_mid at k old new) y ≡ new =
            ap (λ i. slice_range (put_mid at k old new) i (i + line)) (sym place) ∙ there in
            subst (λ i. P i (row_in n line (put_mid at k old new) i)) same (subst (P y) (sym row) here)
      ]
