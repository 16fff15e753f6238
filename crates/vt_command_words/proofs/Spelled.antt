-- The number that a text spells within bounds, from what `decimal` says of the text.
use Rattle.std.proofs.Common.{◌≡◌, ◌∙◌, ◌≤◌, ap, sym, refl, ℕ, ℤ, pos, negsuc, ◌≤ℤ◌, Some, None, Bool, true, false, Result, Ok, Err, List, arith}
use Rattle.std.proofs.lemmas.Int.{ints}
use Rattle.std.proofs.lemmas.Bool.{false≢true}
use Rattle.std.proofs.lemmas.Slice.Eq.{bytes_eq-Decides}
use Rattle.std.specs.Prelude.{nat_abs, is_ok, if◌then◌else◌}
use Rattle.std.specs.Str.Parse.{digits_value}
use Rattle.vt_text.specs.Numbers.{number_spelling, spelling, IsWithin}
use Rattle.vt_text.proofs.Spelling.{digits_value-number_spelling}
use Rattle.vt_command_words.specs.Numbers.{number_between}
use Rattle.vt_text.proofs.Truths.{both_true, each_true, le_test, le_tested}

chosen : (b : Bool) (m n : ℕ) → b ≡ true → m ≡ n → (if b then Some m else None) ≡ Some n
chosen true m n is same = ap Some same
chosen false m n is same = absurd (false≢true is)

dropped : (b : Bool) (m : ℕ) → (b ≡ true → ⊥) → (if b then Some m else None) ≡ None
dropped true m differs = absurd (differs refl)
dropped false m differs = refl

-- the number that is spelled and within the bounds
within : (least most n : ℕ) (text : List ℕ) → text ≡ number_spelling n → least ≤ n → n ≤ most → number_between least most text ≡ Some n
unfolding number_between
within least most n text is low high =
    let m = digits_value 10 text in
    let v : m ≡ n = ap (digits_value 10) is ∙ digits_value-number_spelling n in
    let same = (bytes_eq-Decides text (number_spelling m)).1 (is ∙ ap number_spelling (sym v)) in
    let inside = both_true _ _ (le_test least m (omega (arith, v))) (le_test m most (omega (arith, v))) in
    chosen _ m n (both_true _ _ same inside) v

-- no number within the bounds is spelled
without : (least most : ℕ) (text : List ℕ) → ((n : ℕ) → text ≡ number_spelling n → least ≤ n → n ≤ most → ⊥)
    → number_between least most text ≡ None
unfolding number_between
without least most text none =
    let m = digits_value 10 text in
    dropped _ m (λ t.
    let parts = each_true _ _ t in
    let bounds = each_true _ _ parts.1 in
    none m ((bytes_eq-Decides text (number_spelling m)).0 parts.0) (le_tested least m bounds.0) (le_tested m most bounds.1))

within_integers : (least most : ℕ) (z : ℤ) (text : List ℕ) → text ≡ spelling z → pos least ≤ℤ z → z ≤ℤ pos most
    → number_between least most text ≡ Some (nat_abs z)
within_integers least most (pos n) text is low high = within least most n text is (omega (arith, ints)) (omega (arith, ints))
within_integers least most (negsuc n) text is low high = absurd (omega (arith, ints))

-- what was read within the bounds
pub number_read : (least most : ℕ) (z low high : ℤ) (text : List ℕ) → text ≡ spelling z → IsWithin low high z
    → low ≡ pos least → high ≡ pos most → number_between least most text ≡ Some (nat_abs z)
number_read least most z low high text is inside low_is high_is =
    within_integers least most z text is (omega (arith, ints)) (omega (arith, ints))

-- what was not read within the bounds
pub number_refused : {E : Type 0} (e : E) (least most : ℕ) (low high : ℤ) (text : List ℕ)
    → ((z : ℤ) → text ≡ spelling z → IsWithin low high z → ◌≡◌ {A = Result ℤ E} (Err e) (Ok z)) → low ≡ pos least → high ≡ pos most
    → number_between least most text ≡ None
number_refused e least most low high text found low_is high_is = without least most text
    (λ n is above below. false≢true (ap is_ok (found (pos n) is (omega (arith, ints), omega (arith, ints)))))
