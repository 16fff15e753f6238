-- The depth of a texture: how many bytes each of its samples has, and the texel words that follow from it.
use Rattle.std.specs.Prelude.{ℕ, zero, suc, ◌+◌, ◌-◌, ◌*◌, ◌/◌, ◌%◌, ◌^◌, ◌≡◌, ◌⊎◌, List, [], ◌∷◌, ◌++◌, slice_index, All, ◌<◌}
use Rattle.vt_definitions.specs.Numbers.{number_from, number_bytes}

-- a sample has one byte or two
abbrev pub IsDepth : ℕ → Type 0
IsDepth d = (d ≡ 1) ⊎ (d ≡ 2)

-- how many values a sample has
abbrev pub sample_base : ℕ → ℕ
sample_base d = 256 ^ d

-- the greatest sample
abbrev pub greatest_sample : ℕ → ℕ
greatest_sample d = sample_base d - 1

-- how many bytes a texel has: those of three samples
abbrev pub texel_length : ℕ → ℕ
texel_length d = 3 * d

-- a texel word: red, green and blue in one number, red first
abbrev pub word_of : ℕ → ℕ → ℕ → ℕ → ℕ
word_of d red green blue = red * (sample_base d * sample_base d) + green * sample_base d + blue

abbrev pub red_of : ℕ → ℕ → ℕ
red_of d w = w / (sample_base d * sample_base d) % sample_base d

abbrev pub green_of : ℕ → ℕ → ℕ
green_of d w = w / sample_base d % sample_base d

abbrev pub blue_of : ℕ → ℕ → ℕ
blue_of d w = w % sample_base d

-- the bytes of a texel word: each sample's, the most significant first
abbrev pub word_bytes : ℕ → ℕ → List ℕ
word_bytes d w = number_bytes d (red_of d w) ++ number_bytes d (green_of d w) ++ number_bytes d (blue_of d w)

-- sample number i of bytes
abbrev pub sample_at : ℕ → List ℕ → ℕ → ℕ
sample_at d bytes i = number_from bytes (d * i) d

-- the word of texel number i of bytes
abbrev pub word_at : ℕ → List ℕ → ℕ → ℕ
word_at d bytes i = word_of d (sample_at d bytes (3 * i)) (sample_at d bytes (3 * i + 1)) (sample_at d bytes (3 * i + 2))

-- each is a byte
abbrev pub AreBytes : List ℕ → Type 0
AreBytes bytes = All (λ byte. byte < 256) bytes

-- so many bytes from a place on
abbrev pub bytes_from : List ℕ → ℕ → ℕ → List ℕ
bytes_from bytes at zero = []
bytes_from bytes at (suc n) = slice_index bytes at ∷ bytes_from bytes (at + 1) n

-- the bytes of texel number i of bytes
abbrev pub texel_bytes : ℕ → List ℕ → ℕ → List ℕ
texel_bytes d bytes i = bytes_from bytes (texel_length d * i) (texel_length d)
