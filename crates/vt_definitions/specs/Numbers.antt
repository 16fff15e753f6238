-- Numbers in bytes, the most significant first.
use Rattle.std.specs.Prelude.{ℕ, zero, suc, ◌+◌, ◌*◌, ◌/◌, ◌%◌, ◌^◌, List, [], ◌∷◌, slice_index}

-- the number that so many bytes from a place on make
abbrev pub number_from : List ℕ → ℕ → ℕ → ℕ
number_from bytes at zero = 0
number_from bytes at (suc n) = number_from bytes at n * 256 + slice_index bytes (at + n)

-- a number in so many bytes
abbrev pub number_bytes : ℕ → ℕ → List ℕ
number_bytes zero value = []
number_bytes (suc n) value = (value / 256 ^ n % 256) ∷ number_bytes n value
