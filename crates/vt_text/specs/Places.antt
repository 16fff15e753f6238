-- The lines of the error output that name a place.
use Rattle.std.specs.Prelude.{ℕ, List, [], ◌++◌, Option, Some, None, codes}
use Rattle.vt_text.specs.Numbers.{number_spelling}
use Rattle.vt_text.specs.declared.place.Place.{Place}

-- a number as it is printed, where there is one
abbrev pub number_text : Option ℕ → List ℕ
number_text None = []
number_text (Some n) = number_spelling n

-- a place as it is printed: its words and numbers in turn
abbrev pub place_text : Place → List ℕ
place_text p = p.words.now ++ (number_text p.number ++ (p.between.now ++ (number_text p.second_number ++ (p.after.now ++ number_text p.last_number))))

-- the line of a place alone
abbrev pub place_line : List ℕ → List ℕ
place_line place = codes "vtex: " ++ (place ++ codes "\n")

-- the line of an input that is refused: its name, and the place of its flaw
abbrev pub bad_input_line : List ℕ → List ℕ → List ℕ
bad_input_line name place = codes "vtex: bad input: " ++ (name ++ (codes ": " ++ (place ++ codes "\n")))
