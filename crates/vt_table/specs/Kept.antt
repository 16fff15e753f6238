-- What a page table keeps: for each page a number, and for each frame a room of bytes and the depth of its tile.
use Rattle.std.specs.Prelude.{◌≡◌, ℕ, ◌+◌, ◌*◌, ◌<◌, ◌≤◌, List, length, map, slice_index, slice_range}
use Rattle.std.specs.List.{range_with_len}
use Rattle.vt_journal.specs.Depths.{texel_length}
use Rattle.vt_journal.specs.Limits.{most_frame_texels}
use Rattle.vt_journal.specs.Shape.{Shape}
use Rattle.vt_journal.specs.Pages.{pages_of}
use Rattle.vt_journal.specs.declared.changes.Change.{Change}
use Rattle.vt_journal.specs.Changes.{newest}
use Rattle.vt_journal.specs.Kept.{entries_of}
use Rattle.vt_table.specs.Views.{TableView, IsTable}

-- how many bytes the room of a frame has: two for each sample of a tile of this side
abbrev pub room_of_frame : ℕ → ℕ
room_of_frame side = 6 * (side * side)

-- the bytes of a frame's tile, whose samples have so many bytes: the first of its room
unfoldable pub tile_in : ℕ → List ℕ → ℕ → ℕ → List ℕ
tile_in side bytes depth frame = slice_range bytes (frame * room_of_frame side) (frame * room_of_frame side + texel_length depth * (side * side))

-- the tiles of so many frames
abbrev pub tiles_in : ℕ → List ℕ → List ℕ → ℕ → List (List ℕ)
tiles_in side bytes depths frames = map (λ f. tile_in side bytes (slice_index depths f) f) (range_with_len 0 frames)

-- what is seen of what is kept
abbrev pub table_view_of : Shape → List Change → ℕ → List ℕ → List ℕ → List ℕ → TableView
table_view_of s changes spare bytes depths owners = record {
  shape = s;
  frames = length owners;
  changes = changes;
  spare = spare;
  tiles = tiles_in s.tile bytes depths (length owners);
  owners = owners;
}

-- what is kept is the table's: a number for each page, a room for each frame, and the depth of each frame's tile
pub record IsTableKept (v : TableView) (room : ℕ) (entries bytes depths : List ℕ) : Type 0 where
  pub table : IsTable v
  pub room_is : room ≡ room_of_frame v.shape.tile
  pub few_bytes : v.frames * room ≤ 6 * most_frame_texels
  pub all_entries : length entries ≡ pages_of v.shape
  pub agrees : entries_of entries ≡ newest v.changes
  pub all_bytes : length bytes ≡ v.frames * room
  pub all_depths : length depths ≡ v.frames
  pub low_depth : (f : ℕ) → f < v.frames → 1 ≤ slice_index depths f
  pub high_depth : (f : ℕ) → f < v.frames → slice_index depths f ≤ 2
