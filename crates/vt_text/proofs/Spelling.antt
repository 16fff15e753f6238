-- Each number has one spelling, and plain digits are the spelling of the number that they write.
use Rattle.std.proofs.Common.{◌≡◌, ◌≢◌, ℕ, zero, suc, ◌+◌, ◌*◌, ◌/◌, ◌%◌, ◌<◌, ◌≤◌, ◌^◌, List, [], ◌∷◌, ◌++◌, length, get_or, drop, map, refl, sym, ap, ◌∙◌, subst, arith, ℤ, pos, negsuc, inl, inr}
use Rattle.std.specs.Char.{digit_value}
use Rattle.std.specs.Int.{IsInRange}
use Rattle.std.specs.Int.Digits.{digits_of, number_from_digits_after, number_from_digits, AllBelowBase}
use Rattle.std.specs.Str.Parse.{AllDigits, digits_value}
use Rattle.std.specs.Fmt.{decimal}
use Rattle.std.proofs.lemmas.Int.Digits.{digits_of_step, number_digits_of, digits_value_is, all_below_base_digits_of, all_below_base_from_digits, first_digits_of, number_after_ge}
use Rattle.std.proofs.lemmas.Str.Parse.{digit_from_value, digit_at, numerals_by_value, tells_digits}
use Rattle.std.proofs.lemmas.Fmt.{decimal-digits_value}
use Rattle.std.proofs.lemmas.List.{append-nil, append_assoc}
use Rattle.std.proofs.lemmas.Bool.Decides.{nat_tests}
use Rattle.std.proofs.Math.Nat.{eq-zero-or-pos}
use Rattle.vt_text.specs.Numbers.{number_spelling, spelling, IsPlainNumeral}

-- one digit more at the end
digits_of_push : (n d : ℕ) → 0 < n → d < 10 → digits_of 10 (n * 10 + d) ≡ digits_of 10 n ++ (d ∷ [])
digits_of_push n d some small =
    let q : (n * 10 + d) / 10 ≡ n = omega arith in
    let r : (n * 10 + d) % 10 ≡ d = omega arith in
    digits_of_step 10 (n * 10 + d) (omega arith) (omega arith) ∙ ap (λ m. digits_of 10 m ++ ((n * 10 + d) % 10 ∷ [])) q ∙ ap (λ m. digits_of 10 n ++ (m ∷ [])) r

-- the digits of a number that digits follow
digits_of_after : (n : ℕ) (ds : List ℕ) → 0 < n → AllBelowBase 10 ds → digits_of 10 (number_from_digits_after 10 n ds) ≡ digits_of 10 n ++ ds
digits_of_after n [] some all = sym (append-nil (digits_of 10 n))
digits_of_after n (d ∷ ds) some all =
    let more : 0 < n * 10 + d = omega arith in
    digits_of_after (n * 10 + d) ds more all.1 ∙ ap (λ xs. xs ++ ds) (digits_of_push n d some all.0) ∙ append_assoc (digits_of 10 n) (d ∷ []) ds

-- a number of one digit
digits_of_one : (d : ℕ) → 0 < d → d < 10 → digits_of 10 d ≡ d ∷ []
digits_of_one d some small =
    let q : d / 10 ≡ 0 = omega arith in
    let r : d % 10 ≡ d = omega arith in
    digits_of_step 10 d (omega arith) some ∙ ap (λ m. digits_of 10 m ++ (d % 10 ∷ [])) q ∙ ap (λ m. m ∷ []) r

-- digits that begin above 0 are the digits of their number
digits_of_number : (d : ℕ) (ds : List ℕ) → 0 < d → AllBelowBase 10 (d ∷ ds) → digits_of 10 (number_from_digits 10 (d ∷ ds)) ≡ d ∷ ds
digits_of_number d ds some all =
    let e : 0 * 10 + d ≡ d = omega arith in
    ap (λ m. digits_of 10 (number_from_digits_after 10 m ds)) e ∙ digits_of_after d ds some all.1 ∙ ap (λ xs. xs ++ ds) (digits_of_one d some all.0)

-- a digit as a byte, and back
byte_of_value : (c : ℕ) → digit_value c < 10 → 48 + digit_value c ≡ c
byte_of_value c small = let r : IsInRange 48 57 c = digit_from_value c small in grind (arith, nat_tests)

value_of_byte : (d : ℕ) → d < 10 → digit_value (48 + d) ≡ d
value_of_byte d small = grind (arith, nat_tests)

bytes_of_values : (cs : List ℕ) → AllDigits 10 cs → map (λ d. 48 + d) (map digit_value cs) ≡ cs
bytes_of_values [] all = refl
bytes_of_values (c ∷ cs) all = ap (λ x. x ∷ map (λ d. 48 + d) (map digit_value cs)) (byte_of_value c all.0) ∙ ap (λ xs. c ∷ xs) (bytes_of_values cs all.1)

values_of_bytes : (ds : List ℕ) → AllBelowBase 10 ds → map digit_value (map (λ d. 48 + d) ds) ≡ ds
values_of_bytes [] all = refl
values_of_bytes (d ∷ ds) all = ap (λ x. x ∷ map digit_value (map (λ d. 48 + d) ds)) (value_of_byte d all.0) ∙ ap (λ xs. d ∷ xs) (values_of_bytes ds all.1)

all_digits_of_bytes : (ds : List ℕ) → AllBelowBase 10 ds → AllDigits 10 (map (λ d. 48 + d) ds)
all_digits_of_bytes [] all = tt
all_digits_of_bytes (d ∷ ds) all = (subst (λ x. x < 10) (sym (value_of_byte d all.0)) all.0, all_digits_of_bytes ds all.1)

-- the spelling of a number above 0
spelling_above : (n : ℕ) → 0 < n → number_spelling n ≡ map (λ d. 48 + d) (digits_of 10 n)
unfolding number_spelling
spelling_above zero some = absurd (omega arith)
spelling_above (suc n) some = refl

spelling_zero : number_spelling 0 ≡ 48 ∷ []
unfolding number_spelling
spelling_zero = refl

-- the first byte of plain digits is a digit
pub plain_first : (ds : List ℕ) → IsPlainNumeral ds → IsInRange 48 57 (get_or ds 0 0)
plain_first ds plain = digit_at ds 0 plain.1 plain.0

-- plain digits that begin above 0
spelling-above_zero : (c : ℕ) (cs : List ℕ) → AllDigits 10 (c ∷ cs) → 0 < digit_value c → number_spelling (digits_value 10 (c ∷ cs)) ≡ c ∷ cs
spelling-above_zero c cs all some =
    let below = all_below_base_from_digits 10 (c ∷ cs) all in
    let e : digits_value 10 (c ∷ cs) ≡ number_from_digits 10 (map digit_value (c ∷ cs)) = digits_value_is 10 (c ∷ cs) in
    let large : 0 * 10 + digit_value c ≤ number_from_digits_after 10 (0 * 10 + digit_value c) (map digit_value cs) =
    number_after_ge 10 (0 * 10 + digit_value c) (map digit_value cs) (omega arith) in
    let more : 0 < number_from_digits 10 (map digit_value (c ∷ cs)) = omega (arith, large) in
    ap number_spelling e ∙ spelling_above (number_from_digits 10 (map digit_value (c ∷ cs))) more
    ∙ ap (map (λ d. 48 + d)) (digits_of_number (digit_value c) (map digit_value cs) some below) ∙ bytes_of_values (c ∷ cs) all

-- a byte whose digit is 0 is alone
spelling-one_zero : (c : ℕ) (cs : List ℕ) → IsPlainNumeral (c ∷ cs) → digit_value c ≡ 0 → number_spelling (digits_value 10 (c ∷ cs)) ≡ c ∷ cs
spelling-one_zero c [] plain none =
    let e : c ≡ 48 = sym (byte_of_value c plain.1.0) ∙ ap (λ d. 48 + d) none in
    let v : 0 * 10 + digit_value c ≡ 0 = omega (arith, none) in
    ap number_spelling v ∙ spelling_zero ∙ ap (λ x. x ∷ []) (sym e)
spelling-one_zero c (x ∷ cs) plain none =
    let e : c ≡ 48 = sym (byte_of_value c plain.1.0) ∙ ap (λ d. 48 + d) none in
    absurd (omega (arith, plain.2 e))

-- plain digits are the spelling of the number that they write
pub spelling-digits_value : (ds : List ℕ) → IsPlainNumeral ds → number_spelling (digits_value 10 ds) ≡ ds
spelling-digits_value [] plain = absurd (omega (arith, plain.0))
spelling-digits_value (c ∷ cs) plain =
    elim (eq-zero-or-pos (digit_value c)) [ inl none ↦ spelling-one_zero c cs plain none | inr some ↦ spelling-above_zero c cs plain.1 some ]

-- a list with a first element above 0 is not empty, and the byte of that element is not `0`
some_from_first : (ds : List ℕ) → 0 < get_or ds 0 0 → (0 < length (map (λ d. 48 + d) ds)) × (get_or (map (λ d. 48 + d) ds) 0 0 ≢ 48)
some_from_first [] some = absurd (omega arith)
some_from_first (d ∷ ds) some = (omega arith, λ e. omega (arith, e))

-- the spelling of a number is plain digits
pub plain-number_spelling : (n : ℕ) → IsPlainNumeral (number_spelling n)
unfolding number_spelling
plain-number_spelling zero = (omega arith, (omega arith, tt), λ e. refl)
plain-number_spelling (suc n) =
    let first = some_from_first (digits_of 10 (suc n)) (first_digits_of 10 (suc n) (omega arith) (omega arith)) in
    (first.0, all_digits_of_bytes (digits_of 10 (suc n)) (all_below_base_digits_of 10 (suc n) (omega arith)), λ e. absurd (first.1 e))

-- and they write the number
pub digits_value-number_spelling : (n : ℕ) → digits_value 10 (number_spelling n) ≡ n
unfolding number_spelling
digits_value-number_spelling zero = refl
digits_value-number_spelling (suc n) =
    digits_value_is 10 (map (λ d. 48 + d) (digits_of 10 (suc n)))
    ∙ ap (number_from_digits 10) (values_of_bytes (digits_of 10 (suc n))
    (all_below_base_digits_of 10 (suc n) (omega arith))) ∙ number_digits_of 10 (suc n) (omega arith)

-- natural numbers that are spelled alike are one
pub number_spelling_injective : (m n : ℕ) → number_spelling m ≡ number_spelling n → m ≡ n
number_spelling_injective m n e = sym (digits_value-number_spelling m) ∙ ap (digits_value 10) e ∙ digits_value-number_spelling n

-- no natural number is spelled with a minus
pub no_minus : (n : ℕ) → get_or (number_spelling n) 0 0 ≢ 45
no_minus n e = let first = plain_first (number_spelling n) (plain-number_spelling n) in omega (arith, first, e)

-- integers that are spelled alike are one
pub spelling_injective : (y z : ℤ) → spelling y ≡ spelling z → y ≡ z
spelling_injective (pos m) (pos n) e = ap pos (number_spelling_injective m n e)
spelling_injective (pos m) (negsuc n) e = absurd (no_minus m (ap (λ bs. get_or bs 0 0) e))
spelling_injective (negsuc m) (pos n) e = absurd (no_minus n (ap (λ bs. get_or bs 0 0) (sym e)))
spelling_injective (negsuc m) (negsuc n) e = let f : suc m ≡ suc n = number_spelling_injective (suc m) (suc n) (ap (drop 1) e) in ap negsuc (omega (arith, f))

-- the text that std and `itoa` write for a number of 64 bits is its spelling
pub decimal-number_spelling : (n : ℕ) → n < 2 ^ 64 → decimal n ≡ number_spelling n
decimal-number_spelling n small =
    let plain = plain-number_spelling n in
    let v = digits_value-number_spelling n in
    ap decimal (sym v) ∙ decimal-digits_value (numerals_by_value (AllDigits 10) tells_digits) (number_spelling n) plain.1 plain.0 plain.2 (omega (arith, v))
