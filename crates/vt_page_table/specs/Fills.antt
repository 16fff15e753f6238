-- Pages that were mapped to frames which had been filled with their words.
use Rattle.std.specs.Prelude.{◌≡◌, ℕ, ◌*◌, ◌<◌, ◌⊎◌, Option, IfSome, List, length, slice_index}
use Rattle.vt_definitions.specs.Depths.{word_at}
use Rattle.vt_tiles.specs.Files.{IsPiece}
use Rattle.vt_tiles.specs.Shape.{Shape}
use Rattle.vt_tiles.specs.Format.{tile_length, tile_start}

-- words are those of the texels of a tile, row by row, whose samples have d bytes
pub record AreTexelWords (d texels : ℕ) (tile words : List ℕ) : Type 0 where
  pub count : length words ≡ texels
  pub each : (i : ℕ) → i < texels → slice_index words i ≡ word_at d tile i

-- words are those of a page's tile, which is the store's where that is known
pub record IsStoredPage (s : Shape) (d : ℕ) (known : Option (List ℕ)) (page : ℕ) (words : List ℕ) : Type 0 where
  pub tile : List ℕ
  pub size : length tile ≡ tile_length s d
  pub of_store : IfSome known (λ b. IsPiece b (tile_start s d page) tile)
  pub words_of : AreTexelWords d (s.tile * s.tile) tile words

-- each page that was filled with words was filled with those of its tile
abbrev pub AreStoredPages : Shape → ℕ → Option (List ℕ) → (ℕ → List ℕ → Type 0) → Type 0
AreStoredPages s d known filled = (page : ℕ) (words : List ℕ) → filled page words → IsStoredPage s d known page words

-- no page was filled with words but as before, and this one with those of a tile
abbrev pub FillsOne : ℕ → ℕ → ℕ → List ℕ → (ℕ → List ℕ → Type 0) → (ℕ → List ℕ → Type 0) → Type 0
FillsOne d texels one tile before after = (page : ℕ) (words : List ℕ) → after page words
    → before page words ⊎ ((page ≡ one) × AreTexelWords d texels tile words)

-- no page was filled with words but as before
abbrev pub FillsNone : (ℕ → List ℕ → Type 0) → (ℕ → List ℕ → Type 0) → Type 0
FillsNone before after = (page : ℕ) (words : List ℕ) → after page words → before page words
