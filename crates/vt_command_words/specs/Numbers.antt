-- The numbers among the words, by their one spelling and within their bounds.
use Rattle.std.specs.Prelude.{ℕ, List, Option, Some, None, ◌≤◌, ◌&&◌, nat_le, if◌then◌else◌}
use Rattle.std.specs.Str.{bytes_eq}
use Rattle.std.specs.Str.Parse.{digits_value}
use Rattle.clap.specs.Words.{Row, Text, first_of}
use Rattle.vt_text.specs.Limits.{most_tile_side}
use Rattle.vt_text.specs.Tiles.{is_tile_side}
use Rattle.vt_text.specs.Numbers.{number_spelling}
use Rattle.vt_command_words.specs.Arguments.{given}

-- the greatest number of a texture that is made from one
abbrev pub most_number : ℕ
most_number = 65535

-- the number that the text spells, if it is within the bounds, which are included
unfoldable pub number_between : ℕ → ℕ → Text → Option ℕ
number_between least most text =
    let n = digits_value 10 text in
    if bytes_eq text (number_spelling n) && (nat_le least n && nat_le n most) then Some n else None

-- the number is within the bounds
abbrev pub IsBetween : ℕ → ℕ → ℕ → Type 0
IsBetween least most n = (least ≤ n) × (n ≤ most)

-- the number of an argument
abbrev pub number_of : Text → ℕ → ℕ → List Row → Option ℕ
number_of id least most rows = given (first_of id rows) (number_between least most)

-- the number of an argument, if it is a tile side
abbrev pub side_of : Text → List Row → Option ℕ
side_of id rows = given (number_of id 2 most_tile_side rows) (λ side. if is_tile_side side then Some side else None)
