-- What is true of a still page table.
use Rattle.std.specs.Prelude.{◌≡◌, ℕ, ◌+◌, ◌*◌, ◌≤◌, List, Option, Some, None, IsSome, length}
use Rattle.vt_definitions.specs.Depths.{IsDepth, texel_length}
use Rattle.vt_pages.specs.Pages.{root_of}
use Rattle.vt_lookup.specs.Lookups.{Note, EntryNote, WordNote}
use Rattle.vt_table.specs.Changes.{newest}
use Rattle.vt_table.specs.Views.{TableView, IsMappedTo, tile_of, word_in}

-- the entry of a page: 0 where it is unmapped, and else its frame and 1
abbrev pub entry_number : Option ℕ → ℕ
entry_number None = 0
entry_number (Some frame) = frame + 1

-- a note is true of a table: it tells an entry of the newest version, or a word of the tile of a frame that is mapped then
abbrev pub IsTrueOf : TableView → Note → Type 0
IsTrueOf v (EntryNote version page entry) = (version ≡ length v.changes) × (entry ≡ entry_number (newest v.changes page))
IsTrueOf v (WordNote version frame place word) =
    (version ≡ length v.changes) × IsMappedTo (newest v.changes) frame × (word ≡ word_in v frame place)

-- the newest version maps the root
abbrev pub TableMapsRoot : TableView → Type 0
TableMapsRoot v = IsSome (newest v.changes (root_of v.shape))

-- the frame of a mapped page, the bytes of its tile, and how many bytes a sample of it has
pub record IsFound (v : TableView) (frame depth : ℕ) (tile : List ℕ) : Type 0 where
  pub mapped : IsMappedTo (newest v.changes) frame
  pub is : tile ≡ tile_of v frame
  pub depth_is : IsDepth depth
  pub full : length tile ≡ texel_length depth * (v.shape.tile * v.shape.tile)
  pub side : 1 ≤ v.shape.tile
