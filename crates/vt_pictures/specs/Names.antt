-- The names of the pictures: a prefix, four digits and `.ppm`.
use Rattle.std.specs.Prelude.{ℕ, ◌+◌, ◌/◌, ◌%◌, List, [], ◌∷◌, ◌++◌, length, drop, Bool, false, ◌&&◌, nat_le, nat_eq, codes}
use Rattle.std.specs.List.{starts_with}
use Rattle.std.specs.Str.{bytes_eq}

-- how many numbers four digits spell
abbrev pub four_digit_numbers : ℕ
four_digit_numbers = 10000

-- a number below that in four digits
abbrev pub four_digits : ℕ → List ℕ
four_digits n = (48 + n / 1000 % 10) ∷ (48 + n / 100 % 10) ∷ (48 + n / 10 % 10) ∷ (48 + n % 10) ∷ []

-- the name of a picture: the prefix, its number in four digits, and the ending
abbrev pub picture_name : List ℕ → ℕ → List ℕ
picture_name prefix picture = prefix ++ four_digits picture ++ codes ".ppm"

-- an ASCII digit
abbrev pub is_digit : ℕ → Bool
is_digit b = nat_le 48 b && nat_le b 57

-- four digits and the ending
abbrev pub is_picture_ending : List ℕ → Bool
is_picture_ending (a ∷ b ∷ c ∷ d ∷ rest) = is_digit a && is_digit b && is_digit c && is_digit d && bytes_eq rest (codes ".ppm")
is_picture_ending other = false

-- the name is that of some picture under the prefix
abbrev pub is_picture_name : List ℕ → List ℕ → Bool
is_picture_name prefix name = starts_with nat_eq name prefix && is_picture_ending (drop (length prefix) name)
