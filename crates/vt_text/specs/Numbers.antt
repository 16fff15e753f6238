-- How numbers are spelled: digits without leading zeros, a minus before those of a negative number; one text for each.
use Rattle.std.specs.Prelude.{◌≡◌, ◌≢◌, ◌+◌, ◌-◌, ◌^◌, ◌<◌, ◌⊎◌, ℕ, zero, suc, min, ℤ, pos, negsuc, neg_ℤ, ◌≤ℤ◌, ◌<ℤ◌, Bool, cond, List, [], ◌∷◌, length, map, slice_index}
use Rattle.std.specs.Int.Digits.{digits_of}
use Rattle.std.specs.Str.Parse.{AllDigits}

-- the digits of a number in ASCII, the highest first: `0`, or digits that begin with 1 to 9
unfoldable pub number_spelling : ℕ → List ℕ
number_spelling zero = 48 ∷ []
number_spelling (suc n) = map (λ d. 48 + d) (digits_of 10 (suc n))

-- the spelling of an integer: a `-` is before the digits of a negative one
abbrev pub spelling : ℤ → List ℕ
spelling (pos n) = number_spelling n
spelling (negsuc n) = 45 ∷ number_spelling (suc n)

-- no number has this spelling
abbrev pub IsNoSpelling : List ℕ → Type 0
IsNoSpelling bs = (z : ℤ) → bs ≢ spelling z

-- a number is within two bounds, which are included
abbrev pub IsWithin : ℤ → ℤ → ℤ → Type 0
IsWithin least most z = (least ≤ℤ z) × (z ≤ℤ most)

-- the text spells a number that is below the least or above the most
abbrev pub SpellsOutside : ℤ → ℤ → List ℕ → Type 0
SpellsOutside least most bs = (z : ℤ) × (bs ≡ spelling z) × ((z <ℤ least) ⊎ (most <ℤ z))

-- one digit or more, and no zero before another digit
abbrev pub IsPlainNumeral : List ℕ → Type 0
IsPlainNumeral ds = (0 < length ds) × AllDigits 10 ds × (slice_index ds 0 ≡ 48 → length ds ≡ 1)

-- the integer of a sign and a size
abbrev pub signed_number : Bool → ℕ → ℤ
signed_number is_negative size = cond is_negative (neg_ℤ (pos size)) (pos size)

-- the text spells the integer of the sign and a size that the number gives, or the greatest number of 64 bits for a greater one
abbrev pub IsSizeOf : List ℕ → Bool → ℕ → Type 0
IsSizeOf bs is_negative size = (n : ℕ) × (bs ≡ spelling (signed_number is_negative n)) × (size ≡ min n (2 ^ 64 - 1))
