-- Rows that one sampler drew, in their order.
use Rattle.std.proofs.Common.{◌≡◌, ℕ, ◌<◌, ◌≤◌, inl, inr, ◌⊎◌, List, length, get_or, sym, ap, ◌∙◌, subst, arith}
use Rattle.std.specs.Prelude.{AllPairs, Contains}
use Rattle.std.proofs.lemmas.Bool.{cases_lt}
use Rattle.std.proofs.lemmas.List.{length-map, get_or-map, get_or_default}
use Rattle.vt_pass_rows.specs.SchedulesTypes.bag.RowJob.{RowJob}
use Rattle.vt_pass_rows.specs.SharedRows.{VersionsRise, rows_of}

-- of two rows that one sampler drew the lower one is not of an earlier version
pub rising_pair : (kept : List RowJob) (a b : RowJob) → AllPairs (λ (x y : ℕ). x < y) (rows_of kept)
    → VersionsRise kept → Contains kept a → Contains kept b → a.row ≤ b.row → a.version ≤ b.version
rising_pair kept a b rise rising has_a has_b low = by_case (cases_lt has_a.0 has_b.0) (cases_lt has_b.0 has_a.0) where
  at_n : get_or kept has_b.0 a ≡ b
  at_n = get_or_default kept has_b.0 a b has_b.1 ∙ has_b.2

  rows : (k : ℕ) (x : RowJob) → k < length kept → get_or (rows_of kept) k x.row ≡ (get_or kept k x).row
  rows k x inside = get_or-map (λ (j : RowJob). j.row) kept k x x.row inside

  by_case : (has_a.0 < has_b.0) ⊎ (has_b.0 ≤ has_a.0) → (has_b.0 < has_a.0) ⊎ (has_a.0 ≤ has_b.0) → a.version ≤ b.version
  by_case (inl less) any = subst (λ (z : RowJob × RowJob). z.0.version ≤ z.1.version) (λ i. (has_a.2 i, at_n i)) (rising has_a.0 has_b.0 a less has_b.1)
  by_case (inr least) (inl more) = absurd
      (let count = length-map kept (λ (j : RowJob). j.row) in
      let r = rise has_b.0 has_a.0 a.row more (let w = has_a.1 in omega (arith, w, count)) in
      let x = rows has_b.0 a has_b.1 ∙ ap (λ (j : RowJob). j.row) at_n in
      let y = rows has_a.0 a has_a.1 ∙ ap (λ (j : RowJob). j.row) has_a.2 in
      omega (arith, r, x, y, low))
  by_case (inr least) (inr most) =
      let same : has_b.0 ≡ has_a.0 = omega (arith, least, most) in
      let is : a ≡ b = sym has_a.2 ∙ ap (λ (k : ℕ). get_or kept k a) (sym same) ∙ at_n in
      omega (arith, ap (λ (j : RowJob). j.version) is)
