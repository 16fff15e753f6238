use Rattle.std.proofs.Common.{◌≡◌, ◌+◌, ◌-◌, ◌++◌, arith, length, take, drop, ap, ◌∙◌, sym, List, ℕ}
use Rattle.std.proofs.lemmas.List.{append_assoc, drop-drop}
use borrow.Rule.Slice.PartMut.{put_mid}
use Rattle.vt_text.specs.Numbers.{number_spelling}
use Rattle.vt_text.proofs.Spelling.{decimal-number_spelling}
use Rattle.vt_text.proofs.numbers.put_number.Goals as goal

pub returns-clause-end : goal.returns-clause-end
returns-clause-end c =
    let e = c.as_bytes-digits.ensures.value ∙ c.format.ensures.text ∙ decimal-number_spelling c.args.n c.ranges.n.fits in
    ap (λ (ds : List ℕ). c.args.at + length ds) e

-- digits written over a piece of the same length leave what is before and after it
written_over : (at size : ℕ) (xs ys ws : List ℕ) → ys ≡ ws → put_mid at (at + size - at) xs ys ≡ take at xs ++ ws ++ drop (at + size) xs
written_over at size xs ys ws e =
    let k : at + size - at ≡ size = omega arith in
    ap (λ m. put_mid at m xs ys) k ∙ ap (λ zs. take at xs ++ (zs ++ drop size (drop at xs))) e
    ∙ ap (λ zs. take at xs ++ (ws ++ zs)) (drop-drop size at xs) ∙ sym (append_assoc (take at xs) ws (drop (at + size) xs))

pub returns-clause-written : goal.returns-clause-written
returns-clause-written c =
    let e = c.as_bytes-digits.ensures.value ∙ c.format.ensures.text ∙ decimal-number_spelling c.args.n c.ranges.n.fits in
    written_over c.args.at _ c.args.line.now _ (number_spelling c.args.n) (c.copy_from_slice.ensures.after ∙ e)
