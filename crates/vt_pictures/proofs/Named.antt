-- Names that are known as pictures' are those of pictures below ten thousand.
use Rattle.std.proofs.Common.{◌≡◌, ℕ, ◌+◌, ◌-◌, ◌*◌, ◌/◌, ◌%◌, ◌<◌, ◌≤◌, List, [], ◌∷◌, ◌++◌, length, drop, true}
use Rattle.std.proofs.Common.{refl, sym, ap, ◌∙◌, append_assoc, arith}
use Rattle.std.proofs.Math.Seq.{drop-append_seam}
use Rattle.std.proofs.lemmas.Bool.{false≢true}
use Rattle.std.proofs.lemmas.Bool.Decides.{Decides-eqb}
use Rattle.std.proofs.lemmas.Slice.Eq.{bytes_eq-Decides, starts_is}
use Rattle.std.specs.Prelude.{codes}
use Rattle.vt_pictures.specs.Names.{four_digit_numbers, four_digits, picture_name, is_digit, is_picture_ending, is_picture_name}
use Rattle.vt_journal.proofs.Truths.{both_true, each_true, le_test, le_tested}

digit_known : (n : ℕ) → is_digit (48 + n % 10) ≡ true
digit_known n = both_true _ _ (le_test 48 (48 + n % 10) (omega arith)) (le_test (48 + n % 10) 57 (omega arith))

ending_known : (n : ℕ) → is_picture_ending (four_digits n ++ codes ".ppm") ≡ true
ending_known n =
    let front = both_true _ _ (digit_known (n / 1000)) (digit_known (n / 100)) in
    both_true _ _ (both_true _ _ (both_true _ _ front (digit_known (n / 10))) (digit_known n)) refl

pub name_known : (prefix : List ℕ) (n : ℕ) → is_picture_name prefix (picture_name prefix n) ≡ true
name_known prefix n =
    let e : picture_name prefix n ≡ prefix ++ (four_digits n ++ codes ".ppm") = append_assoc prefix (four_digits n) (codes ".ppm") in
    both_true _ _ ((starts_is Decides-eqb (picture_name prefix n) prefix _ refl).1 (four_digits n ++ codes ".ppm") e)
    (ap (λ (name : List ℕ). is_picture_ending (drop (length prefix) name)) e
    ∙ ap is_picture_ending (drop-append_seam prefix (four_digits n ++ codes ".ppm")) ∙ ending_known n)

digit_range : (b : ℕ) → is_digit b ≡ true → (48 ≤ b) × (b ≤ 57)
digit_range b h = let t = each_true _ _ h in (le_tested 48 b t.0, le_tested b 57 t.1)

-- the number that four digits write
abbrev number_in : ℕ → ℕ → ℕ → ℕ → ℕ
number_in a b c d = 1000 * (a - 48) + 100 * (b - 48) + 10 * (c - 48) + (d - 48)

digits_written : (a b c d : ℕ) → (48 ≤ a) × (a ≤ 57) → (48 ≤ b) × (b ≤ 57) → (48 ≤ c) × (c ≤ 57) → (48 ≤ d) × (d ≤ 57)
    → (number_in a b c d < four_digit_numbers) × (a ∷ b ∷ c ∷ d ∷ [] ≡ four_digits (number_in a b c d))
digits_written a b c d p q r s =
    let n = number_in a b c d in
    let ea : a ≡ 48 + n / 1000 % 10 = omega arith in
    let eb : b ≡ 48 + n / 100 % 10 = omega arith in
    let ec : c ≡ 48 + n / 10 % 10 = omega arith in
    let ed : d ≡ 48 + n % 10 = omega arith in
    (omega arith, cc)

ending_found : (e : List ℕ) → is_picture_ending e ≡ true → (n : ℕ) × (n < four_digit_numbers) × (e ≡ four_digits n ++ codes ".ppm")
ending_found [] h = absurd (false≢true h)
ending_found (a ∷ []) h = absurd (false≢true h)
ending_found (a ∷ b ∷ []) h = absurd (false≢true h)
ending_found (a ∷ b ∷ c ∷ []) h = absurd (false≢true h)
ending_found (a ∷ b ∷ c ∷ d ∷ rest) h =
    let t = each_true _ _ h in
    let u = each_true _ _ t.0 in
    let v = each_true _ _ u.0 in
    let w = each_true _ _ v.0 in
    let is = digits_written a b c d (digit_range a w.0) (digit_range b w.1) (digit_range c v.1) (digit_range d u.1) in
    let ppm = (bytes_eq-Decides rest (codes ".ppm")).0 t.1 in
    (number_in a b c d, is.0, ap (λ (r : List ℕ). a ∷ b ∷ c ∷ d ∷ r) ppm ∙ ap (λ (ds : List ℕ). ds ++ codes ".ppm") is.1)

pub name_found : (prefix name : List ℕ) → is_picture_name prefix name ≡ true → (n : ℕ) × (n < four_digit_numbers) × (name ≡ picture_name prefix n)
name_found prefix name h =
    let t = each_true _ _ h in
    let begins = (starts_is Decides-eqb name prefix _ refl).0 t.0 in
    let ends = ending_found (drop (length prefix) name) t.1 in
    (ends.0, ends.1, begins ∙ ap (λ (e : List ℕ). prefix ++ e) ends.2 ∙ sym (append_assoc prefix (four_digits ends.0) (codes ".ppm")))

-- a prefix to which four digits were pushed, one after another, and an ending
pub pushed : (prefix s1 s2 s3 s4 s5 s6 ending : List ℕ) (a b c d : ℕ) → s1 ≡ prefix → s2 ≡ s1 ++ a ∷ [] → s3 ≡ s2 ++ b ∷ []
    → s4 ≡ s3 ++ c ∷ [] → s5 ≡ s4 ++ d ∷ [] → s6 ≡ s5 ++ ending → s6 ≡ prefix ++ (a ∷ b ∷ c ∷ d ∷ []) ++ ending
pushed prefix s1 s2 s3 s4 s5 s6 ending a b c d e1 e2 e3 e4 e5 e6 =
    let whole : s5 ≡ (((prefix ++ a ∷ []) ++ b ∷ []) ++ c ∷ []) ++ d ∷ [] = rw (e5, e4, e3, e2, e1) in
    e6 ∙ ap (λ (s : List ℕ). s ++ ending) (whole ∙ simp append_assoc)
