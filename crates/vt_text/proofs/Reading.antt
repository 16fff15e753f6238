-- What a field says of its number: facts for each way that the reading of a field can end.
use Rattle.std.proofs.Common.{◌≡◌, ◌≢◌, ℕ, zero, suc, ◌+◌, ◌-◌, ◌*◌, ◌<◌, ◌≤◌, ◌^◌, min, List, [], ◌∷◌, length, get_or, take, drop, refl, sym, ap, ◌∙◌, subst, arith, rules, ℤ, pos, negsuc, neg_ℤ, ◌<ℤ◌, ◌⊎◌, inl, inr, Bool, true, false, FitsSigned, w64, to_z, of_z}
use Rattle.std.specs.Char.{digit_value}
use Rattle.std.specs.Int.{IsInRange}
use Rattle.std.specs.Str.Parse.{AllDigits, digits_value}
use Rattle.std.proofs.lemmas.Int.{ints, to_z-of_z}
use Rattle.std.proofs.lemmas.Int.Digits.{digits_value_more, digits_more}
use Rattle.std.proofs.lemmas.Str.Parse.{digit_at}
use Rattle.std.proofs.lemmas.Bool.{cases_lt}
use Rattle.std.proofs.lemmas.Bool.Decides.{nat_tests}
use Rattle.vt_text.specs.Numbers.{number_spelling, spelling, signed_number, IsPlainNumeral, IsNoSpelling, IsWithin, SpellsOutside, IsSizeOf}
use Rattle.vt_text.proofs.Spelling.{spelling_injective, spelling-digits_value, plain-number_spelling, digits_value-number_spelling, no_minus}

-- a byte that is no digit keeps the field from being plain digits
pub not_plain : (ds : List ℕ) (i : ℕ) → i < length ds → (get_or ds i 0 < 48) ⊎ (57 < get_or ds i 0) → IsPlainNumeral ds → ⊥
not_plain ds i within (inl low) plain = let r : IsInRange 48 57 (get_or ds i 0) = digit_at ds i plain.1 within in omega (arith, r)
not_plain ds i within (inr high) plain = let r : IsInRange 48 57 (get_or ds i 0) = digit_at ds i plain.1 within in omega (arith, r)

-- what a digit adds
pub digit_of_byte : (c : ℕ) → 48 ≤ c → c ≤ 57 → digit_value c ≡ c - 48
digit_of_byte c low high = grind (arith, nat_tests)

pub more_digits : (ds : List ℕ) (i : ℕ) → i < length ds → 48 ≤ get_or ds i 0 → get_or ds i 0 ≤ 57 → AllDigits 10 (take i ds) → AllDigits 10 (take (i + 1) ds)
more_digits ds i within low high all = digits_more 10 ds i within all (omega (arith, digit_of_byte (get_or ds i 0) low high))

pub more_size : (ds : List ℕ) (i size digit product sum : ℕ) → i < length ds → 48 ≤ get_or ds i 0 → get_or ds i 0 ≤ 57
    → size ≡ min (digits_value 10 (take i ds)) (2 ^ 64 - 1) → digit ≡ get_or ds i 0 - 48
    → product ≡ min (size * 10) (2 ^ 64 - 1) → sum ≡ min (product + digit) (2 ^ 64 - 1) → sum ≡ min (digits_value 10 (take (i + 1) ds)) (2 ^ 64 - 1)
more_size ds i size digit product sum within low high a b c d = omega (arith, digits_value_more 10 ds i within, digit_of_byte (get_or ds i 0) low high)

-- a minus before what is no plain digits
pub none_after_minus : (bs ds : List ℕ) → ds ≡ drop 1 bs → get_or bs 0 0 ≡ 45 → (IsPlainNumeral ds → ⊥) → IsNoSpelling bs
none_after_minus bs ds d minus not (pos n) e = no_minus n (ap (λ xs. get_or xs 0 0) (sym e) ∙ minus)
none_after_minus bs ds d minus not (negsuc n) e = not (subst IsPlainNumeral (sym (d ∙ ap (drop 1) e)) (plain-number_spelling (suc n)))

-- a minus before the digits of 0
pub none_minus_zero : (bs ds : List ℕ) (size : ℕ) → ds ≡ drop 1 bs → get_or bs 0 0 ≡ 45
    → size ≡ min (digits_value 10 ds) (2 ^ 64 - 1) → size ≡ 0 → IsNoSpelling bs
none_minus_zero bs ds size d minus is none (pos n) e = no_minus n (ap (λ xs. get_or xs 0 0) (sym e) ∙ minus)
none_minus_zero bs ds size d minus is none (negsuc n) e =
    let v : digits_value 10 ds ≡ suc n = ap (digits_value 10) (d ∙ ap (drop 1) e) ∙ digits_value-number_spelling (suc n) in omega (arith, v)

-- no minus, and no plain digits
pub none_plain : (bs : List ℕ) → get_or bs 0 0 ≢ 45 → (IsPlainNumeral bs → ⊥) → IsNoSpelling bs
none_plain bs other not (pos n) e = not (subst IsPlainNumeral (sym e) (plain-number_spelling n))
none_plain bs other not (negsuc n) e = other (ap (λ xs. get_or xs 0 0) e)

-- a number below 0
spelling_negative : (n : ℕ) → 0 < n → spelling (neg_ℤ (pos n)) ≡ 45 ∷ number_spelling n
spelling_negative zero some = absurd (omega arith)
spelling_negative (suc n) some = refl

-- a minus before plain digits spells the negative of their number
minus_spells : (bs : List ℕ) → get_or bs 0 0 ≡ 45 → IsPlainNumeral (drop 1 bs) → 0 < digits_value 10 (drop 1 bs)
    → bs ≡ spelling (neg_ℤ (pos (digits_value 10 (drop 1 bs))))
minus_spells [] minus plain some = absurd (omega (arith, minus))
minus_spells (c ∷ cs) minus plain some = ap (λ x. x ∷ cs) minus ∙ ap (λ xs. 45 ∷ xs) (sym (spelling-digits_value cs plain))
    ∙ sym (spelling_negative (digits_value 10 cs) some)

pub minus_sized : (bs ds : List ℕ) (size : ℕ) → ds ≡ drop 1 bs → get_or bs 0 0 ≡ 45 → IsPlainNumeral ds
    → size ≡ min (digits_value 10 ds) (2 ^ 64 - 1) → size ≢ 0 → IsSizeOf bs true size
minus_sized bs ds size d minus plain is some =
    let v : digits_value 10 (drop 1 bs) ≡ digits_value 10 ds = ap (digits_value 10) (sym d) in
    let more : 0 < digits_value 10 (drop 1 bs) = omega arith in
    (digits_value 10 (drop 1 bs), minus_spells bs minus (subst IsPlainNumeral d plain) more, is ∙ ap (λ n. min n (2 ^ 64 - 1)) (sym v))

pub plain_sized : (bs : List ℕ) (size : ℕ) → IsPlainNumeral bs → size ≡ min (digits_value 10 bs) (2 ^ 64 - 1) → IsSizeOf bs false size
plain_sized bs size plain is = (digits_value 10 bs, sym (spelling-digits_value bs plain), is)

-- the sizes that fit 64 bits with their sign
fits_positive : (n : ℕ) → n < 2 ^ 63 → FitsSigned w64 (pos n)
fits_positive n small = search rules

fits_negative : (n : ℕ) → n ≤ 2 ^ 63 → FitsSigned w64 (neg_ℤ (pos n))
fits_negative zero small = search rules
fits_negative (suc n) small = search rules

-- the number of a size that fits 64 bits with its sign
pub number_from_size : (bs : List ℕ) (b : Bool) (size : ℕ) → IsSizeOf bs b size → FitsSigned w64 (signed_number b size) → bs ≡ spelling (signed_number b size)
number_from_size bs true size s fits = let small : size ≡ s.0 = omega (arith, ints, s.2, fits) in s.1 ∙ ap (λ n. spelling (neg_ℤ (pos n))) (sym small)
number_from_size bs false size s fits = let small : size ≡ s.0 = omega (arith, ints, s.2, fits) in s.1 ∙ ap (λ n. spelling (pos n)) (sym small)

-- a size that does not fit is outside all bounds of 64 bits
pub outside_from_size : (bs : List ℕ) (b : Bool) (size : ℕ) (least most : ℤ) → IsSizeOf bs b size → FitsSigned w64 least
    → FitsSigned w64 most → (FitsSigned w64 (signed_number b size) → ⊥) → SpellsOutside least most bs
outside_from_size bs true size least most s low high unfit = elim (cases_lt (2 ^ 63) size)
    [ inl large ↦ (signed_number true s.0, s.1, inl (omega (arith, ints, s.2, low))) | inr small ↦ absurd (unfit (fits_negative size small)) ]
outside_from_size bs false size least most s low high unfit = elim (cases_lt size (2 ^ 63)) [
  | inl small ↦ absurd (unfit (fits_positive size small))
  | inr large ↦ (signed_number false s.0, s.1, inr (omega (arith, ints, s.2, high)))
]

-- a number is not within the bounds and outside them
pub not_both : (least most z : ℤ) → (z <ℤ least) ⊎ (most <ℤ z) → IsWithin least most z → ⊥
not_both least most z (inl low) within = omega (arith, ints, low, within.0)
not_both least most z (inr high) within = omega (arith, ints, high, within.1)

-- a text that spells a number outside the bounds spells none within them
pub none_within : (bs : List ℕ) (least most z : ℤ) → SpellsOutside least most bs → bs ≡ spelling z → IsWithin least most z → ⊥
none_within bs least most z (y, e, outside) f within = not_both least most z
    (subst (λ x. (x <ℤ least) ⊎ (most <ℤ x)) (spelling_injective y z (sym e ∙ f)) outside) within

-- bounds on numbers that stand as their bits and back
pub within_from_bits : (least most y : ℤ) → FitsSigned w64 least → FitsSigned w64 most → FitsSigned w64 y
    → IsWithin (to_z w64 (of_z w64 least)) (to_z w64 (of_z w64 most)) (to_z w64 (of_z w64 y)) → IsWithin least most y
within_from_bits least most y fl fm fy h = (omega (arith, ints, h.0), omega (arith, ints, h.1))

pub outside_from_bits : (least most y : ℤ) → FitsSigned w64 least → FitsSigned w64 most → FitsSigned w64 y
    → (to_z w64 (of_z w64 y) <ℤ to_z w64 (of_z w64 least)) ⊎ (to_z w64 (of_z w64 most) <ℤ to_z w64 (of_z w64 y)) → (y <ℤ least) ⊎ (most <ℤ y)
outside_from_bits least most y fl fm fy (inl h) = inl (omega (arith, ints, h))
outside_from_bits least most y fl fm fy (inr h) = inr (omega (arith, ints, h))

-- the clauses of a number that was read
module _ (bs : List ℕ) (b : Bool) (size : ℕ) (y : ℤ) (least most : ℤ) (sized : IsSizeOf bs b size)
    (read : FitsSigned w64 (signed_number b size) × (y ≡ signed_number b size)) (fl : FitsSigned w64 least) (fm : FitsSigned w64 most) where
  fits : FitsSigned w64 y
  fits = subst (FitsSigned w64) (sym read.1) read.0

  spelled : bs ≡ spelling y
  spelled = number_from_size bs b size sized read.0 ∙ ap spelling (sym read.1)

  pub ok_from_size : IsWithin (to_z w64 (of_z w64 least)) (to_z w64 (of_z w64 most)) (to_z w64 (of_z w64 y))
      → (bs ≡ spelling (to_z w64 (of_z w64 y))) × IsWithin least most (to_z w64 (of_z w64 y))
  ok_from_size h = subst (λ x. (bs ≡ spelling x) × IsWithin least most x) (sym (to_z-of_z w64 y fits)) (spelled, within_from_bits least most y fl fm fits h)

  pub found_from_size : (z : ℤ) → bs ≡ spelling z → to_z w64 (of_z w64 y) ≡ z
  found_from_size z f = to_z-of_z w64 y fits ∙ spelling_injective y z (sym spelled ∙ f)

  pub not_outside : IsWithin (to_z w64 (of_z w64 least)) (to_z w64 (of_z w64 most)) (to_z w64 (of_z w64 y)) → SpellsOutside least most bs → ⊥
  not_outside h outside = none_within bs least most y outside spelled (within_from_bits least most y fl fm fits h)

  pub outside_from_read : (to_z w64 (of_z w64 y) <ℤ to_z w64 (of_z w64 least)) ⊎
      (to_z w64 (of_z w64 most) <ℤ to_z w64 (of_z w64 y)) → SpellsOutside least most bs
  outside_from_read h = (y, spelled, outside_from_bits least most y fl fm fits h)
