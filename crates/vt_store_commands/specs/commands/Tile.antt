-- The command `tile`: the tile store of a texture's mip chain.
use Rattle.std.specs.Prelude.{ℕ, List, [], ◌∷◌, Option, Some, None, codes, if◌then◌else◌, ◌≡◌}
use Rattle.std.specs.Str.{bytes_eq}
use Rattle.clap.specs.Words.{Row, Rule, Text, first_of}
use Rattle.vt_command_words.specs.Arguments.{word, option, given}
use Rattle.vt_command_words.specs.Numbers.{side_of}
use Rattle.vt_store_commands.specs.declared.commands.tile.TileWords.{TileWords}
use Rattle.vt_ppm.specs.Image.{ImageView}
use Rattle.vt_ppm.specs.Strips.{texture_of}
use Rattle.vt_ppm.specs.declared.header.Header.{Header}
use Rattle.vt_pages.specs.Shape.{Shape}
use Rattle.vt_pages.specs.Pages.{refusal_of}
use Rattle.vt_pages.specs.declared.PagesError.{PagesError}
use Rattle.vt_pages.specs.declared.PagesError.TheVariants as pages_error
use Rattle.vt_store.specs.ChainStores.{texture_store}
use Rattle.vt_command_inputs.specs.Lines.{store_line}
use Rattle.vt_command_inputs.specs.Inputs.{InputContent, TiledTexture, TextureContent, texture_shape}
use Rattle.vt_outside.specs.Expectations.{Expected}
use Rattle.vt_command_inputs.specs.Tasks.{Task}
use Rattle.vt_command_inputs.specs.declared.flaws.Flaw.{Flaw}
use Rattle.vt_command_inputs.specs.declared.flaws.Flaw.TheVariants.{TooManyPages, BadSize}
use Rattle.vt_command_inputs.specs.declared.refusal.Refusal.{Refusal}
use Rattle.vt_command_inputs.specs.declared.refusal.Refusal.TheVariants.{Flawed}

-- the words as names and a number
pub record TileText : Type 0 where
  pub texture : Text
  pub store : Text
  pub tile : ℕ

-- its arguments
unfoldable pub tile_rules : List Rule
tile_rules = word (codes "texture") ∷ word (codes "store") ∷ option (codes "tile") (codes "64") ∷ []

-- what the rows say; nothing where the side is not lawful or the name that is written is the one that is read
abbrev pub tile_values : List Row → Option TileText
tile_values rows =
    given (first_of (codes "texture") rows) (λ texture.
    given (first_of (codes "store") rows) (λ store.
    given (side_of (codes "tile") rows) (λ tile.
    if bytes_eq store texture then None else Some (record { texture = texture; store = store; tile = tile }))))

-- the words without where they lie in memory
abbrev pub shown_tile : TileWords → TileText
shown_tile words = record { texture = words.texture.now; store = words.store.now; tile = words.tile }

-- the tile store of a texture's mip chain
unfoldable pub store_file : ImageView → ℕ → List ℕ
store_file = texture_store

-- the store of the texture that bytes spell behind a header
abbrev pub made_store : Header → ℕ → List ℕ → List ℕ
made_store header tile bytes = texture_store (texture_of header bytes) tile

-- the texture's store, and its line
abbrev pub expected_store : List ℕ → ImageView → ℕ → Expected
expected_store name texture tile = record {
  files = (record { name = name; bytes = store_file texture tile }) ∷ [];
  text = store_line (texture_shape texture tile) texture.depth;
}

abbrev pub expected_tile : TileText → List InputContent → Expected
expected_tile words (TextureContent texture ∷ []) = expected_store words.store texture words.tile
expected_tile words other = record { files = []; text = [] }

-- the flaw of a texture whose pages are refused
abbrev pub flaw_of_pages : PagesError → Flaw
flaw_of_pages (pages_error.TooManyPages n) = TooManyPages n
flaw_of_pages pages_error.BadTile = BadSize
flaw_of_pages pages_error.BadSide = BadSize

-- the texture of a name is refused for so many pages
abbrev pub IsTooMany : List ℕ → Shape → Refusal → Type 0
IsTooMany name shape (Flawed named (TooManyPages n)) = (named.now ≡ name) × (refusal_of shape ≡ Some (pages_error.TooManyPages n))
IsTooMany name shape _ = ⊥

-- `tile` reads a texture that is to have few enough pages
abbrev pub tile_task : TileText → Task
tile_task words = record { inputs = TiledTexture words.texture words.tile ∷ []; expected = expected_tile words }
