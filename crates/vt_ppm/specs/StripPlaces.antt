-- The strips that a texture is read by, of as many rows as a tile has.
use Rattle.std.specs.Prelude.{◌≡◌, ◌⊎◌, ℕ, ◌+◌, ◌-◌, ◌*◌, ◌/◌, ◌<◌, ◌≤◌, Bool, true, false, List, [], ◌∷◌, ◌++◌, map, min, Option, option_map}
use Rattle.std.specs.List.{range_with_len}
use Rattle.vt_outside.specs.declared.place.Place.{Place}
use Rattle.vt_ppm.specs.declared.header.Header.{Header}
use Rattle.vt_ppm.specs.Strips.{row_length, row_start}

-- how many strips of so many rows a texture has
abbrev pub strips_of : Header → ℕ → ℕ
strips_of h t = (h.height + t - 1) / t

-- how many rows a strip has: the last one those that are left
abbrev pub strip_rows : Header → ℕ → ℕ → ℕ
strip_rows h t i = min t (h.height - i * t)

-- the place of a strip in the file
abbrev pub strip_place : Header → ℕ → Bool → ℕ → Place
strip_place h t failed i = record { at = row_start h (i * t); len = strip_rows h t i * row_length h; failed = failed }

-- the places of the first n strips, in order
abbrev pub strip_places : Header → ℕ → ℕ → List Place
strip_places h t n = map (strip_place h t false) (range_with_len 0 n)

-- the first n strips were asked more, each once and in order
abbrev pub StripsAsked : Header → ℕ → ℕ → Option (List Place) → Option (List Place) → Type 0
StripsAsked h t n before after = after ≡ option_map (λ places. places ++ strip_places h t n) before

-- a prefix of all strips was asked, of which at most the last read failed
pub record StripsTried (h : Header) (t : ℕ) (before after : Option (List Place)) : Type 0 where
  pub count : ℕ
  pub few : count ≤ strips_of h t
  pub asked : StripsAsked h t count before after
      ⊎ ((count < strips_of h t) × (after ≡ option_map (λ places. places ++ (strip_places h t count ++ strip_place h t true count ∷ [])) before))
