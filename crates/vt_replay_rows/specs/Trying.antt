-- Rows of a picture that are drawn over the loaded tiles, some of them at once.
use Rattle.std.specs.Prelude.{◌≡◌, ℕ, ◌+◌, ◌*◌, ◌<◌, ◌≤◌, Bool, true, false, Option, Some, List, length, slice_index_or}
use Rattle.vt_definitions.specs.Depths.{IsDepth, texel_length}
use Rattle.vt_definitions.specs.Texels.{Source}
use Rattle.vt_pages.specs.Shape.{Shape}
use Rattle.vt_pictures.specs.DrawTypes.shots.Shot.{Shot}
use Rattle.vt_journal.specs.Changes.{Table}
use Rattle.vt_journal.specs.Kept.{entries_of}
use Rattle.vt_tiles.specs.Format.{stored}
use Rattle.vt_tiles.specs.StoreViews.{IsStore}
use Rattle.vt_pictures.specs.Scenes.{Scene, scene_of}
use Rattle.vt_pictures.specs.Replays.{HasPixels}
use Rattle.vt_replay_rows.specs.ReplayLookups.{ReplayLookupView, AreTiles, bytes_row}
use Rattle.vt_replay_rows.specs.declared.table.PageTable.{PageTable}
use Rattle.vt_replay_rows.specs.declared.tiles.Tiles.{Tiles}

-- how a filter shows pixels: the bytes of pixel (x, y) of picture i of a scene under a page table, of a source of texels
abbrev pub Under : Type 0
Under = Source → Scene → Table → ℕ → ℕ → ℕ → List ℕ

-- what a look-up over a table and a set of tiles begins with
abbrev pub replay_lookup_of : Shape → ℕ → PageTable → Tiles → ReplayLookupView
replay_lookup_of s d table tiles = record {
  shape = s;
  depth = d;
  size = tiles.size;
  version = table.version;
  entries = table.entries.items;
  slots = tiles.slots.items;
  owners = tiles.owners.items;
  bytes = tiles.bytes.items;
  missed = false;
}

-- the tiles that are looked at are those of the store whose bytes are known
abbrev pub HoldsStoreTiles : Shape → ℕ → ReplayLookupView → Option (List ℕ) → Type 0
HoldsStoreTiles s d v known = AreTiles s d v.size v.slots v.owners v.bytes known

-- bytes are those of row y of a picture under a page table, as a filter shows its pixels of the store whose bytes are known
abbrev pub ShowsRow : Under → Scene → Table → Option (List ℕ) → ℕ → ℕ → List ℕ → Type 0
ShowsRow under scene m known i y bytes = (b : List ℕ) → known ≡ Some b → IsStore b scene.shape scene.depth
    → HasPixels scene.depth scene.path.width (λ x. under (stored b) scene m i x y) bytes

-- by marks of the rows that are left to be drawn, a row is left
abbrev pub IsRowLeft : List Bool → ℕ → Type 0
IsRowLeft left k = slice_index_or left k false ≡ true

-- by the same, a row is not left
abbrev pub IsDone : List Bool → ℕ → Type 0
IsDone left k = slice_index_or left k false ≡ false

-- rows that were left before and are no more show what they are to show, and rows that were not left are as before; their numbers count from a first
-- one
pub record AreTried (line first : ℕ) (shows : ℕ → List ℕ → Type 0) (left after : List Bool) (samples new : List ℕ) : Type 0 where
  pub kept : (k : ℕ) → IsDone left k → IsDone after k × (bytes_row line new k ≡ bytes_row line samples k)
  pub drawn : (k : ℕ) → IsRowLeft left k → IsDone after k → shows (first + k) (bytes_row line new k)

-- so many rows of a picture, from a first one on, may be drawn over what is looked at, into so many bytes
pub record MayTry (shot : Shot) (v : ReplayLookupView) (first rows bytes : ℕ) : Type 0 where
  pub lawful : IsDepth shot.depth
  pub shape : v.shape ≡ shot.geometry.now
  pub depth : v.depth ≡ shot.depth
  pub picture : shot.picture < length shot.path.now.cameras
  pub inside : first + rows ≤ shot.path.now.height
  pub room : bytes ≡ rows * (texel_length shot.depth * shot.path.now.width)

-- such rows were drawn as far as the loaded tiles go, whatever store these are of
abbrev pub HasTriedRows : Under → Shot → ReplayLookupView → ℕ → List Bool → List Bool → List ℕ → List ℕ → Type 0
HasTriedRows under shot v first left after samples new = (known : Option (List ℕ)) → HoldsStoreTiles shot.geometry.now shot.depth v known
    → AreTried (texel_length shot.depth * shot.path.now.width) first
    (ShowsRow under (scene_of shot.geometry.now shot.depth shot.path.now) (entries_of v.entries) known shot.picture) left after samples new
