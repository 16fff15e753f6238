use Rattle.std.proofs.Common.{◌≡◌, ◌≤◌, ◌+◌, ◌-◌, ◌++◌, ℕ, List, length, take, drop, ap, ◌∙◌, refl, inr, pos, arith}
use Rattle.std.proofs.lemmas.List.{append_assoc, drop_at, take_at, length-take}
use Rattle.std.proofs.lemmas.Int.{ints}
use Rattle.vt_text.proofs.numbers.written_is_read.Goals as goal

-- what is between two pieces, the first of which has its length
between_pieces : (at end : ℕ) (xs ws new : List ℕ) → at ≤ length xs → end ≡ at + length ws
    → new ≡ take at xs ++ ws ++ drop end xs → take (end - at) (drop at new) ≡ ws
between_pieces at end xs ws new fits is written =
    let k : end - at ≡ length ws = omega arith in
    let front : length (take at xs) ≡ at = omega (arith, length-take at xs) in
    ap (λ m. take m (drop at new)) k
    ∙ ap (λ zs. take (length ws) (drop at zs)) (written ∙ append_assoc (take at xs) ws (drop end xs))
    ∙ ap (take (length ws)) (drop_at (take at xs) (ws ++ drop end xs) at front)
    ∙ take_at ws (drop end xs) (length ws) refl

pub returns-clause-read : goal.returns-clause-read
returns-clause-read c = λ within. c.decimal.ensures.found (pos c.args.n)
    (between_pieces c.args.at c.put_number-end.result c.args.line.now _ _ (omega arith) c.put_number-end.ensures.end c.put_number-end.ensures.written)
    (omega (arith, ints), omega (arith, ints, within))

pub returns-clause-outside : goal.returns-clause-outside
returns-clause-outside c = λ above. c.decimal.ensures.out_of_range.1 (
  pos c.args.n,
  between_pieces c.args.at c.put_number-end.result c.args.line.now _ _
      (omega arith) c.put_number-end.ensures.end c.put_number-end.ensures.written,
  inr (omega (arith, ints, above)),
)
