-- The places that an opening of a store and reads of its tiles ask of the file.
use Rattle.std.specs.Prelude.{◌≡◌, ◌<◌, ◌≤◌, ◌+◌, ◌-◌, ◌*◌, ◌/◌, ◌⊎◌, ℕ, Bool, true, false, List, [], ◌∷◌, ◌++◌, length, map, min, Option, Some, None, IfSome, option_map}
use Rattle.std.specs.List.{range_with_len}
use Rattle.vt_outside.specs.Files.{noted}
use Rattle.vt_outside.specs.declared.place.Place.{Place}
use Rattle.vt_pages.specs.Shape.{Shape}
use Rattle.vt_pages.specs.Pages.{pages_of, columns_at}
use Rattle.vt_tiles.specs.Format.{header_length, tile_start, tile_length}
use Rattle.vt_tiles.specs.declared.error.StoreError.{StoreError}
use Rattle.vt_tiles.specs.declared.error.StoreError.TheVariants.{Failed, NoMemory}

-- one place more was asked: the bytes of the header from the first one on, or all where the file is told to have fewer
pub record AsksStoreHeader (known : Option (List ℕ)) (failed : Bool) (before after : Option (List Place)) : Type 0 where
  pub count : ℕ
  pub few : count ≤ header_length
  pub of_known : IfSome known (λ bytes. count ≡ min (length bytes) header_length)
  pub one : after ≡ option_map (noted 0 count failed) before

-- what an opening asks, by its refusal or none: a store and a flaw are found by one read of the header, and a fault or want of memory
-- comes before it, or the fault is that read's
abbrev pub OpenerAsks : Option (List ℕ) → Option StoreError → Option (List Place) → Option (List Place) → Type 0
OpenerAsks known None before after = after ≡ option_map (noted 0 header_length false) before
OpenerAsks known (Some Failed) before after = (after ≡ before) ⊎ AsksStoreHeader known true before after
OpenerAsks known (Some NoMemory) before after = after ≡ before
OpenerAsks known (Some _) before after = AsksStoreHeader known false before after

-- one place more was asked: that of so many tiles from a page on
abbrev pub TilesAsked : Shape → ℕ → ℕ → ℕ → Bool → Option (List Place) → Option (List Place) → Type 0
TilesAsked s d first count failed before after = after ≡ option_map (noted (tile_start s d first) (count * tile_length s d) failed) before

-- the place is that of the tile of some page
pub record IsTilePlace (s : Shape) (d : ℕ) (place : Place) : Type 0 where
  pub page : ℕ
  pub inside : page < pages_of s
  pub at : place.at ≡ tile_start s d page
  pub len : place.len ≡ tile_length s d

-- one place more was asked: that of a page's tile
abbrev pub TileAsked : Shape → ℕ → ℕ → Bool → Option (List Place) → Option (List Place) → Type 0
TileAsked s d page failed before after = after ≡ option_map (noted (tile_start s d page) (tile_length s d) failed) before

-- in how many tiles at most a store's tiles are read at once: as many as the widest level has side by side
abbrev pub piece_tiles : Shape → ℕ
piece_tiles s = columns_at s 0

-- how many such pieces a store has
abbrev pub pieces_of : Shape → ℕ
pieces_of s = (pages_of s + piece_tiles s - 1) / piece_tiles s

-- how many tiles a piece has: the last one those that are left
abbrev pub piece_count : Shape → ℕ → ℕ
piece_count s i = min (piece_tiles s) (pages_of s - i * piece_tiles s)

-- the place of a piece
abbrev pub piece_place : Shape → ℕ → Bool → ℕ → Place
piece_place s d failed i = record { at = tile_start s d (i * piece_tiles s); len = piece_count s i * tile_length s d; failed = failed }

-- the places of the first n pieces, in order
abbrev pub piece_places : Shape → ℕ → ℕ → List Place
piece_places s d n = map (piece_place s d false) (range_with_len 0 n)

-- the first n pieces were asked more, each once and in order
abbrev pub PiecesAsked : Shape → ℕ → ℕ → Option (List Place) → Option (List Place) → Type 0
PiecesAsked s d n before after = after ≡ option_map (λ places. places ++ piece_places s d n) before

-- a prefix of all pieces was asked, of which at most the last read failed
pub record FrontAsked (s : Shape) (d : ℕ) (before after : Option (List Place)) : Type 0 where
  pub count : ℕ
  pub few : count ≤ pieces_of s
  pub asked : PiecesAsked s d count before after
      ⊎ ((count < pieces_of s) × (after ≡ option_map (λ places. places ++ (piece_places s d count ++ piece_place s d true count ∷ [])) before))
