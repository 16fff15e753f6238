-- What a look-up over a page table and a set of tiles says.
use Rattle.std.specs.Prelude.{◌≡◌, ℕ, ◌+◌, ◌*◌, ◌<◌, ◌≤◌, Bool, false, Option, Some, None, IsSome, IfSome, List, length, slice_range}
use Rattle.vt_definitions.specs.Limits.{most_frame_texels}
use Rattle.vt_definitions.specs.Depths.{IsDepth, word_at}
use Rattle.vt_outside.specs.Files.{IsPiece}
use Rattle.vt_pages.specs.Shape.{Shape}
use Rattle.vt_pages.specs.Pages.{level_of, levels_of, pages_of, ancestor_of, root_of}
use Rattle.vt_pictures.specs.DrawTypes.lookups.Found.{Found}
use Rattle.vt_pictures.specs.DrawLookups.{Note, EntryNote, WordNote}
use Rattle.vt_journal.specs.Changes.{Table, IsOneToOne}
use Rattle.vt_journal.specs.Kept.{entries_of}
use Rattle.vt_tiles.specs.Format.{tile_start, tile_length}

-- row y of bytes, of which each row has so many
abbrev pub bytes_row : ℕ → List ℕ → ℕ → List ℕ
bytes_row line samples y = slice_range samples (y * line) (y * line + line)

-- the tile of a page is in a slot: the page is noted to be there, and the slot is the page's
pub record IsIn (slots owners : List ℕ) (page slot : ℕ) : Type 0 where
  pub noted : entries_of slots page ≡ Some slot
  pub owned : entries_of owners slot ≡ Some page

-- the tile of a page is in some slot
abbrev pub IsHeld : List ℕ → List ℕ → ℕ → Type 0
IsHeld slots owners page = (slot : ℕ) × IsIn slots owners page slot

-- the tile of a page, from a slot where it is
pub record IsTileOf (size : ℕ) (slots owners bytes : List ℕ) (page : ℕ) (tile : List ℕ) : Type 0 where
  pub slot : ℕ
  pub in_slot : IsIn slots owners page slot
  pub full : length tile ≡ size
  pub is : tile ≡ bytes_row size bytes slot

-- a set of tiles: for each page the slot where it may be, for each slot the page whose tile it has, which is the store's where that is known
pub record AreTiles (s : Shape) (d size : ℕ) (slots owners bytes : List ℕ) (known : Option (List ℕ)) : Type 0 where
  pub size_is : size ≡ tile_length s d
  pub all_slots : length slots ≡ pages_of s
  pub some_owner : 1 ≤ length owners
  pub few_owners : length owners ≤ most_frame_texels
  pub all_bytes : length bytes ≡ length owners * size
  pub holds : (slot page : ℕ) → entries_of owners slot ≡ Some page → slot < length owners → IfSome known (λ b. IsPiece b (tile_start s d page) (bytes_row size bytes slot))

-- the shape of the pages, the depth of the samples and the version of the table; the table's entries, the set's slots, owners and bytes; and
-- whether a tile was missed
pub record ReplayLookupView : Type 0 where
  pub shape : Shape
  pub depth : ℕ
  pub size : ℕ
  pub version : ℕ
  pub entries : List ℕ
  pub slots : List ℕ
  pub owners : List ℕ
  pub bytes : List ℕ
  pub missed : Bool

-- what holds of every look-up: the table has an entry for each page, maps the root and no two pages to one frame, and the set has room for
-- whole tiles
pub record IsReplayLookup (v : ReplayLookupView) : Type 0 where
  pub lawful : IsDepth v.depth
  pub all_entries : length v.entries ≡ pages_of v.shape
  pub root : IsSome (entries_of v.entries (root_of v.shape))
  pub apart : IsOneToOne (entries_of v.entries)
  pub size_is : v.size ≡ tile_length v.shape v.depth
  pub all_slots : length v.slots ≡ pages_of v.shape
  pub all_bytes : length v.bytes ≡ length v.owners * v.size

-- what no call of a look-up changes: all but whether a tile was missed
abbrev pub replay_lookup_base : ReplayLookupView → ReplayLookupView
replay_lookup_base v = record v { missed = false }

-- the number of an entry: 0 where a page is unmapped, and else one more than its frame
abbrev pub entry_number : Option ℕ → ℕ
entry_number None = 0
entry_number (Some frame) = frame + 1

-- the tile of a page is loaded and has a word at a place
abbrev pub HasTileWord : ReplayLookupView → ℕ → ℕ → ℕ → Type 0
HasTileWord v page place word = (slot : ℕ) × IsIn v.slots v.owners page slot × (word ≡ word_at v.depth (bytes_row v.size v.bytes slot) place)

-- a note is true: it tells the number of a page's entry, or a word of the page that a frame has; and if no tile was missed, the page's tile is at
-- hand
abbrev pub IsTrueOfTiles : ReplayLookupView → Note → Type 0
IsTrueOfTiles v (EntryNote version page entry) =
    (entry ≡ entry_number (entries_of v.entries page)) × (v.missed ≡ false → 1 ≤ entry → IsHeld v.slots v.owners page)
IsTrueOfTiles v (WordNote version frame place word) =
    v.missed ≡ false → (page : ℕ) → entries_of v.entries page ≡ Some frame → HasTileWord v page place word

-- a page serves another: it is the finest page of the other's line that a table maps (van Waveren 2012)
pub record Serves (s : Shape) (m : Table) (p : ℕ) (found : Found) : Type 0 where
  pub no_finer : level_of s p ≤ found.level
  pub level_inside : found.level < levels_of s
  pub page : found.page ≡ ancestor_of s p found.level
  pub level : found.level ≡ level_of s found.page
  pub inside : found.page < pages_of s
  pub unmapped : (k : ℕ) → level_of s p ≤ k → k < found.level → m (ancestor_of s p k) ≡ None
  pub mapped : m found.page ≡ Some found.slot
