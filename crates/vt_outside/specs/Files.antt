-- What files, folders and sinks hold, a folder as a function from names to bytes, and what calls do to it.
use Rattle.std.specs.Prelude.{◌≡◌, ℕ, ◌+◌, ◌≤◌, ◌<◌, Bool, List, [], ◌∷◌, ◌++◌, length, take, drop, All, Option, Some, IsSome, IfSome, OnSome, option_map, option_and_then, unwrap_or, if◌then◌else◌}
use Rattle.std.specs.Str.{bytes_eq}
use Rattle.vt_outside.specs.declared.place.Place.{Place}

-- the bytes of each name that a folder has
abbrev pub Files : Type 0
Files = List ℕ → Option (List ℕ)

-- the places that were asked of each name
abbrev pub Asked : Type 0
Asked = List ℕ → List Place

-- what a folder that may tell its files tells of a name
abbrev pub bytes_at : Option Files → List ℕ → Option (List ℕ)
bytes_at known name = option_and_then (λ files. files name) known

-- the name is there, where the folder tells its files
abbrev pub IsThere : Option Files → List ℕ → Type 0
IsThere known name = OnSome known (IsSome (bytes_at known name))

-- what the file tells, where it tells its bytes, are bytes: each is below 256
abbrev pub AreBytesIfKnown : Option (List ℕ) → Type 0
AreBytesIfKnown known = IfSome known (λ bytes. All (λ byte. byte < 256) bytes)

-- the file has so many bytes from a place on, where it tells its bytes
abbrev pub HasPlace : Option (List ℕ) → ℕ → ℕ → Type 0
HasPlace known at len = IfSome known (λ bytes. at + len ≤ length bytes)

-- piece is what is in the bytes from a place on, and does not pass their end
pub record IsPiece (bytes : List ℕ) (at : ℕ) (piece : List ℕ) : Type 0 where
  pub within : at + length piece ≤ length bytes
  pub same : piece ≡ take (length piece) (drop at bytes)

-- the places with one more read
abbrev pub noted : ℕ → ℕ → Bool → List Place → List Place
noted at len failed places = places ++ record { at = at; len = len; failed = failed } ∷ []

-- the name holds these bytes, and every other name what it held
abbrev pub with_bytes : List ℕ → List ℕ → Files → Files
with_bytes name bytes files = λ q. if bytes_eq q name then Some bytes else files q

-- the name, where it is there, holds more bytes at its end, and every other name what it held
abbrev pub with_appended : List ℕ → List ℕ → Files → Files
with_appended name more files = λ q. if bytes_eq q name then option_map (λ held. held ++ more) (files q) else files q

-- the name was asked for more places, and every other name for what it was
abbrev pub with_places : List ℕ → Option (List Place) → Asked → Asked
with_places name places asked = λ q. if bytes_eq q name then asked q ++ unwrap_or places [] else asked q

-- the bytes of a sink with more at their end
abbrev pub gained : List ℕ → List ℕ → List ℕ
gained more held = held ++ more
