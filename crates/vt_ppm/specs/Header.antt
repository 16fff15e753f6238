-- What the functions that find a header answer.
use Rattle.std.specs.Prelude.{◌≡◌, ◌⊎◌, ℕ, ◌+◌, ◌<◌, ◌≤◌, false, IsTrue, List, [], ◌∷◌, ◌++◌, length, take, drop, slice_index}
use Rattle.std.specs.List.{prefix_len}
use Rattle.std.specs.Char.{is_ascii_digit}
use Rattle.vt_definitions.specs.Limits.{line_feed}
use Rattle.vt_ppm.specs.Format.{hash, is_white, IsGap, IsField, IsHeader}

-- so many bytes in front go on as a gap: they are one, or they are all and a line end makes them one, or there are none; and no white
-- space follows
pub record IsGapFront (b : List ℕ) (len : ℕ) : Type 0 where
  pub within : len ≤ length b
  pub none : len ≡ 0 → prefix_len is_white b ≡ 0
  pub whole : 1 ≤ len → len ≡ length b → IsGap (b ++ (line_feed ∷ []))
  pub gap : 1 ≤ len → len < length b → IsGap (take len b)
  pub no_white : 1 ≤ len → len < length b → is_white (slice_index b len) ≡ false

-- a comment begins at a place
abbrev pub BeginsComment : List ℕ → ℕ → Type 0
BeginsComment b at = (at < length b) × (slice_index b at ≡ hash)

-- the first bytes, so many, are all with which a gap goes on
pub record IsGapRun (b : List ℕ) (len : ℕ) : Type 0 where
  pub front : IsGapFront b len
  pub no_remark : 1 ≤ len → BeginsComment b len → ⊥

-- the first bytes, so many, are a field with this number, and no digit follows
pub record IsFirstField (b : List ℕ) (len value : ℕ) : Type 0 where
  pub within : len ≤ length b
  pub field : IsField (take len b) value
  pub ended : prefix_len is_ascii_digit (drop len b) ≡ 0

-- bytes with which some field begins
pub record IsFieldFront (front : List ℕ) : Type 0 where
  pub rest : List ℕ
  pub value : ℕ
  pub field : IsField (front ++ rest) value

-- the bytes begin with a field and a white space byte
pub record IsFieldAhead (b : List ℕ) : Type 0 where
  pub text : List ℕ
  pub space : ℕ
  pub rest : List ℕ
  pub value : ℕ
  pub spelt : b ≡ text ++ (space ∷ rest)
  pub field : IsField text value
  pub white : IsTrue (is_white space)

-- no field and white space byte are in front, and byte `at` is the first with which none can
pub record IsBrokenField (b : List ℕ) (at : ℕ) : Type 0 where
  pub within : at ≤ length b
  pub none : IsFieldAhead b → ⊥
  pub front : IsFieldFront (take at b)
  pub breaks : (at ≡ length b) ⊎ ((at < length b) × ((rest : List ℕ) → IsFieldAhead (take (at + 1) b ++ rest) → ⊥))

-- a field reaches from one place to another, and no digit follows
pub record IsFieldAt (b : List ℕ) (from end value : ℕ) : Type 0 where
  pub len : ℕ
  pub end_is : end ≡ from + len
  pub within : end ≤ length b
  pub field : IsFirstField (drop from b) len value

-- from a place on no field and white space byte stand, and byte `at` is the first with which none can
pub record IsBrokenFieldAt (b : List ℕ) (from at : ℕ) : Type 0 where
  pub len : ℕ
  pub at_is : at ≡ from + len
  pub within : at ≤ length b
  pub broken : IsBrokenField (drop from b) len

-- the first bytes, so many, are a header with these numbers
pub record IsFirstHeader (b : List ℕ) (len width height maximum : ℕ) : Type 0 where
  pub within : len ≤ length b
  pub header : IsHeader (take len b) width height maximum
