-- What the program prints: the last lines of commands, and the lines of refusals.
use Rattle.std.specs.Prelude.{ℕ, List, ◌++◌, codes}
use Rattle.vt_command_words.specs.TextNumbers.{number_spelling}
use Rattle.vt_text.specs.Places.{place_line}
use Rattle.vt_pages.specs.Shape.{Shape}
use Rattle.vt_pages.specs.Pages.{levels_of, pages_of}
use Rattle.vt_tiles.specs.Format.{store_length}

-- the last line of `plain`: how many pictures it has written
abbrev pub end_line : ℕ → List ℕ
end_line pictures = codes "end pictures " ++ (number_spelling pictures ++ codes "\n")

-- the line of `tile`, `info` and `upgrade`: the sides of the texture, its tile side, and its numbers of levels, pages and bytes at its depth
unfoldable pub store_line : Shape → ℕ → List ℕ
store_line s d =
    codes "store " ++ number_spelling s.width ++ codes " " ++ number_spelling s.height ++ codes " tile " ++ number_spelling s.tile
    ++ codes " levels " ++ number_spelling (levels_of s) ++ codes " pages " ++ number_spelling (pages_of s)
    ++ codes " bytes " ++ number_spelling (store_length s d) ++ codes "\n"

-- the lines on the error output; that of usage names the commands, and stands with them
abbrev pub memory_line : List ℕ
memory_line = codes "vtex: out of memory\n"

abbrev pub fault_line : List ℕ
fault_line = codes "vtex: fault on files or output\n"

-- so many frames are fewer than the pinned pages
abbrev pub frames_line : ℕ → ℕ → List ℕ
frames_line frames needed = place_line (number_spelling frames ++ (codes " frames, pinned pages need " ++ number_spelling needed))

-- a picture wants more pages than there is room for
abbrev pub unfit_line : ℕ → ℕ → ℕ → List ℕ
unfit_line picture wanted room =
    place_line (codes "picture " ++ (number_spelling picture ++ (codes " wants "
    ++ (number_spelling wanted ++ (codes " pages, room for " ++ number_spelling room)))))
