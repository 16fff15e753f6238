-- The contents that pages were mapped with, where they are tiles of a store.
use Rattle.std.specs.Prelude.{◌≡◌, ℕ, Option, Some, IfSome, List, [], length, slice_get, slice_index_or}
use Rattle.vt_tiles.specs.Files.{IsPiece}
use Rattle.vt_tiles.specs.Shape.{Shape}
use Rattle.vt_journal.specs.declared.changes.Change.{Change}
use Rattle.vt_journal.specs.declared.changes.Change.TheVariants.{Map}
use Rattle.vt_tiles.specs.Format.{tile_length, tile_start}
use Rattle.vt_streaming.specs.Fills.{words_in}

-- a content has the texel words of a page's tile, which is the store's where that is known
pub record IsStored (s : Shape) (d : ℕ) (known : Option (List ℕ)) (page : ℕ) (content : List ℕ) : Type 0 where
  pub tile : List ℕ
  pub size : length tile ≡ tile_length s d
  pub of_store : IfSome known (λ b. IsPiece b (tile_start s d page) tile)
  pub words : content ≡ words_in s tile

-- the content that each map of a journal was published with has the words of its page's tile
abbrev pub AreStored : Shape → ℕ → Option (List ℕ) → List Change → List (List ℕ) → Type 0
AreStored s d known journal contents = (k page frame : ℕ) → slice_get journal k ≡ Some (Map page frame)
    → IsStored s d known page (slice_index_or contents k [])
