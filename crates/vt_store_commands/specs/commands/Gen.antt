-- The command `gen`: a texture that is made from a number.
use Rattle.std.specs.Prelude.{ℕ, List, [], ◌∷◌, Option, Some, codes, ◌+◌, ◌*◌, ◌%◌}
use Rattle.clap.specs.Words.{Row, Rule, Text, first_of}
use Rattle.vt_command_words.specs.Arguments.{word, given}
use Rattle.vt_definitions.specs.Limits.{most_read_side}
use Rattle.vt_command_words.specs.Numbers.{most_number, number_of, IsBetween}
use Rattle.vt_store_commands.specs.declared.commands.generate.GenWords.{GenWords}
use Rattle.std.specs.List.{flat_map, range_with_len}
use Rattle.vt_ppm.specs.Picture.{picture_bytes}
use Rattle.vt_outside.specs.Effects.{FolderEffect, CallEffect, SinkState}
use Rattle.vt_command_inputs.specs.Inputs.{InputContent}
use Rattle.vt_outside.specs.Expectations.{ExpectedFile, Expected}
use Rattle.vt_command_inputs.specs.Tasks.{Task}

-- the words as three numbers and a name
pub record GenText : Type 0 where
  pub number : ℕ
  pub width : ℕ
  pub height : ℕ
  pub name : Text

-- its arguments
unfoldable pub gen_rules : List Rule
gen_rules = word (codes "number") ∷ word (codes "width") ∷ word (codes "height") ∷ word (codes "name") ∷ []

-- what the rows say; nothing where a number is not lawful
abbrev pub gen_values : List Row → Option GenText
gen_values rows =
    given (number_of (codes "number") 0 most_number rows) (λ number.
    given (number_of (codes "width") 1 most_read_side rows) (λ width.
    given (number_of (codes "height") 1 most_read_side rows) (λ height.
    given (first_of (codes "name") rows) (λ name.
    Some (record { number = number; width = width; height = height; name = name })))))

-- the words without where they lie in memory
abbrev pub shown_gen : GenWords → GenText
shown_gen words = record { number = words.number; width = words.width; height = words.height; name = words.name.now }

-- the numbers are within their bounds
abbrev pub IsLawfulGen : GenWords → Type 0
IsLawfulGen words = IsBetween 0 most_number words.number × IsBetween 1 most_read_side words.width × IsBetween 1 most_read_side words.height

-- the samples of the texel in a column and a row, each a remainder of 256
abbrev pub made_texel : ℕ → ℕ → ℕ → List ℕ
made_texel number x y = ((x + number) % 256) ∷ ((y + 3 * number) % 256) ∷ ((x * y + 7 * number) % 256) ∷ []

-- the samples of the first texels of a row
unfoldable pub made_row : ℕ → ℕ → ℕ → List ℕ
made_row number y columns = flat_map (λ x. made_texel number x y) (range_with_len 0 columns)

-- the samples of the first rows, from the top
unfoldable pub made_rows : ℕ → ℕ → ℕ → List ℕ
made_rows number width rows = flat_map (λ y. made_row number y width) (range_with_len 0 rows)

-- the texture's file (the Netpbm manual's P6 page)
abbrev pub made_file : ℕ → ℕ → ℕ → List ℕ
made_file number width height = picture_bytes 1 width height (made_rows number width height)

-- the one file that `gen` writes
abbrev pub expected_file : GenText → ExpectedFile
expected_file words = record { name = words.name; bytes = made_file words.number words.width words.height }

-- `gen` puts no text
abbrev pub expected_gen : GenText → List InputContent → Expected
expected_gen words contents = record { files = expected_file words ∷ []; text = [] }

-- `gen` reads nothing
abbrev pub gen_task : GenText → Task
gen_task words = record { inputs = []; expected = expected_gen words }

-- a folder before and after, with an output that nothing was asked of
abbrev pub quiet : FolderEffect → SinkState → CallEffect
quiet folder out = record { folder = folder; out = record { before = out; after = out } }
