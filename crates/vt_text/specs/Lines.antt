-- Lines and fields of a text, as lists of bytes.
use Rattle.std.specs.Prelude.{◌≡◌, ◌≢◌, ◌+◌, ◌-◌, ◌<◌, ◌≤◌, ℕ, Option, List, [], ◌∷◌, ◌++◌, length, take, drop, slice_index, ◌==◌, MatchOption}
use Rattle.std.specs.List.{slice_split, join_with_byte, flat_map}
use Rattle.vt_definitions.specs.Limits.{line_feed, blank}

-- the parts of a text that a byte separates, the empty ones too
abbrev pub parts_of : ℕ → List ℕ → List (List ℕ)
parts_of byte bs = slice_split (λ b. b == byte) bs

-- the fields of a line: the parts that single blanks separate
abbrev pub fields_of : List ℕ → List (List ℕ)
fields_of line = parts_of blank line

-- the lines of a text: the parts that line feeds separate, where the last is what follows the last line feed
abbrev pub lines_of : List ℕ → List (List ℕ)
lines_of text = parts_of line_feed text

-- the text of lines, each a list of fields: the fields are joined by blanks, and a line feed ends each line
abbrev pub text_of : List (List (List ℕ)) → List ℕ
text_of lines = flat_map (λ fields. join_with_byte blank fields ++ line_feed ∷ []) lines

-- the byte does not occur from one place up to another, which is left out
abbrev pub IsAbsentBetween : ℕ → List ℕ → ℕ → ℕ → Type 0
IsAbsentBetween byte bs low high = (k : ℕ) → low ≤ k → k < high → slice_index bs k ≢ byte

-- the first place of the byte at or after a place, or none
abbrev pub IsNextPlace : ℕ → List ℕ → ℕ → Option ℕ → Type 0
IsNextPlace byte bs at found = MatchOption found (IsAbsentBetween byte bs at (length bs))
    (λ p. (at ≤ p) × (p < length bs) × (slice_index bs p ≡ byte) × IsAbsentBetween byte bs at p)

-- the parts from a place on: up to the byte that was found and then those after it, or all in one
abbrev pub IsCutAt : ℕ → List ℕ → ℕ → Option ℕ → Type 0
IsCutAt byte bs at found = MatchOption found (parts_of byte (drop at bs) ≡ drop at bs ∷ [])
    (λ p. parts_of byte (drop at bs) ≡ take (p - at) (drop at bs) ∷ parts_of byte (drop (p + 1) bs))
