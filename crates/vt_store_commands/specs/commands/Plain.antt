-- The command `plain`: the plain picture of each camera of a path over a texture.
use Rattle.std.specs.Prelude.{ℕ, List, [], ◌∷◌, Option, Some, None, Bool, ◌||◌, codes, if◌then◌else◌, length}
use Rattle.clap.specs.Words.{Row, Rule, Text, first_of}
use Rattle.vt_command_words.specs.Arguments.{word, option, given}
use Rattle.vt_command_words.specs.Filters.{filter_option, filter_of}
use Rattle.vt_pictures.specs.Names.{is_picture_name}
use Rattle.vt_command_words.specs.Numbers.{side_of}
use Rattle.vt_command_words.specs.declared.filters.Filtering.{Filtering}
use Rattle.vt_store_commands.specs.declared.commands.plain.PlainWords.{PlainWords}
use Rattle.vt_ppm.specs.Image.{ImageView}
use Rattle.vt_camera.specs.Paths.{PathView}
use Rattle.vt_command_inputs.specs.Lines.{end_line}
use Rattle.vt_store_commands.specs.Pictures.{plain_file}
use Rattle.vt_command_inputs.specs.Inputs.{InputContent, PathInput, TextureInput, PathContent, TextureContent}
use Rattle.vt_outside.specs.Expectations.{Expected}
use Rattle.vt_pictures.specs.Pictures.{expected_pictures}
use Rattle.vt_command_inputs.specs.Tasks.{Task}

-- the words as names, a number and a filter
pub record PlainText : Type 0 where
  pub texture : Text
  pub path : Text
  pub prefix : Text
  pub tile : ℕ
  pub filter : Filtering

-- its arguments
unfoldable pub plain_rules : List Rule
plain_rules = word (codes "texture") ∷ word (codes "path") ∷ word (codes "prefix") ∷ option (codes "tile") (codes "64") ∷ filter_option ∷ []

-- a name that is read is also one that may be written
abbrev pub plain_clash : Text → Text → Text → Bool
plain_clash texture path prefix = is_picture_name prefix texture || is_picture_name prefix path

-- what the rows say; nothing where the side or the filter is not lawful or names clash
abbrev pub plain_values : List Row → Option PlainText
plain_values rows =
    given (first_of (codes "texture") rows) (λ texture.
    given (first_of (codes "path") rows) (λ path.
    given (first_of (codes "prefix") rows) (λ prefix.
    given (side_of (codes "tile") rows) (λ tile.
    given (filter_of rows) (λ filter.
    if plain_clash texture path prefix then None
    else Some (record { texture = texture; path = path; prefix = prefix; tile = tile; filter = filter }))))))

-- the words without where they lie in memory
abbrev pub shown_plain : PlainWords → PlainText
shown_plain words = record {
  texture = words.texture.now;
  path = words.path.now;
  prefix = words.prefix.now;
  tile = words.tile;
  filter = words.filter;
}

-- the pictures of a path over a texture, by the words' filter, and the end line
abbrev pub expected_path : PlainText → ImageView → PathView → Expected
expected_path words texture path = record {
  files = expected_pictures words.prefix (plain_file words.filter texture words.tile path) (length path.cameras);
  text = end_line (length path.cameras);
}

abbrev pub expected_plain : PlainText → List InputContent → Expected
expected_plain words (PathContent path ∷ TextureContent texture ∷ []) = expected_path words texture path
expected_plain words other = record { files = []; text = [] }

-- `plain` reads the path and then the texture
abbrev pub plain_task : PlainText → Task
plain_task words = record { inputs = PathInput words.path ∷ TextureInput words.texture ∷ []; expected = expected_plain words }
