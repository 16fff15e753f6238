-- The laws of stores: each opens and holds its source, its words are those of its depth, and a tile holds the words of its page.
use Rattle.std.specs.Prelude.{◌≡◌, ℕ, ◌+◌, ◌*◌, ◌^◌, ◌%◌, ◌<◌, None, List, length}
use Rattle.vt_pages.specs.Depths.{IsDepth, AreBytes, word_at}
use Rattle.vt_pages.specs.Texels.{Source}
use Rattle.vt_pages.specs.Shape.{Shape}
use Rattle.vt_pages.specs.Pages.{refusal_of, texel_page}
use Rattle.vt_pages.specs.Laws.{IsInside}
use Rattle.vt_outside.specs.Files.{IsPiece}
use Rattle.vt_tiles.specs.Format.{store_bytes, store_depth, stored, tile_start, tile_length}
use Rattle.vt_tiles.specs.StoreViews.{IsStore}

-- the store of a source, where the pages are accepted, is a store of their shape and of its depth
abbrev pub StoresOpen : Type 0
StoresOpen = (s : Shape) (d : ℕ) (src : Source) → IsDepth d → refusal_of s ≡ None → IsStore (store_bytes s d src) s d

-- and holds the source's words inside every level
abbrev pub StoresHoldSources : Type 0
StoresHoldSources = (s : Shape) (d : ℕ) (src : Source) (k x y : ℕ) → IsDepth d → refusal_of s ≡ None → IsInside s k x y
    → src k x y < 2 ^ (24 * d) → stored (store_bytes s d src) k x y ≡ src k x y

-- the words that bytes hold as a store are below 2^24 where they tell the depth 1, and below 2^48 where they tell 2
abbrev pub StoredWordsAreSmall : Type 0
StoredWordsAreSmall = (b : List ℕ) (k x y : ℕ) → AreBytes b → stored b k x y < 2 ^ (24 * store_depth b)

-- a piece of a store that has a page's place and length holds the stored words of the page's texels
abbrev pub PiecesHoldTexels : Type 0
PiecesHoldTexels = (s : Shape) (d : ℕ) (b tile : List ℕ) (k x y : ℕ) → IsStore b s d → IsInside s k x y
    → IsPiece b (tile_start s d (texel_page s k x y)) tile → length tile ≡ tile_length s d
    → word_at d tile (y % s.tile * s.tile + x % s.tile) ≡ stored b k x y
