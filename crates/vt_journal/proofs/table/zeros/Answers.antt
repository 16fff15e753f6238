use Rattle.std.proofs.Common.{◌≡◌, ℕ, List, length, get_or, replicate, ap, ◌∙◌, rules, arith, inl, inr}
use Rattle.std.proofs.lemmas.Bool.{cases_lt}
use Rattle.std.proofs.lemmas.List.{get_or-replicate, get_or_past}
use Rattle.vt_journal.proofs.table.zeros.Goals as goal

all_zero : (xs : List ℕ) (n : ℕ) → xs ≡ replicate n 0 → length xs ≡ n → (k : ℕ) → get_or xs k 0 ≡ 0
all_zero xs n same count k =
    elim (cases_lt k n) [
      | inl low ↦ ap (λ ys. get_or ys k 0) same ∙ get_or-replicate n k 0 0 low
      | inr high ↦ get_or_past xs k 0 (omega (arith, count))
    ]

pub returns-clause-zero : goal.returns-clause-zero
returns-clause-zero c =
    let same : c.in_ok-vec.field-0.items ≡ replicate c.args.n 0 = search rules in
    let count : length c.in_ok-vec.field-0.items ≡ c.args.n = search rules in
    all_zero c.in_ok-vec.field-0.items c.args.n same count
