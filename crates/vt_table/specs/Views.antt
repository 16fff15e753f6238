-- What contracts see of a page table that changes only between draws, with the tiles of its frames.
use Rattle.std.specs.Prelude.{◌≡◌, ℕ, ◌*◌, ◌/◌, ◌<◌, ◌≤◌, Some, None, List, [], length, slice_index_or}
use Rattle.vt_journal.specs.Limits.{most_frames}
use Rattle.vt_journal.specs.Depths.{IsDepth, texel_length, word_at}
use Rattle.vt_journal.specs.Shape.{Shape}
use Rattle.vt_journal.specs.Pages.{pages_of, IsWithinLimits}
use Rattle.vt_journal.specs.declared.changes.Change.{Change}
use Rattle.vt_journal.specs.declared.changes.Change.TheVariants.{Map, Unmap}
use Rattle.vt_journal.specs.Changes.{Table, newest, with_entry, AreLegal, IsOneToOne}
use Rattle.vt_journal.specs.Lookups.{change_page}
use Rattle.vt_journal.specs.Kept.{entries_of, change_frame}

-- the shape of the pages, the number of frames, the changes so far and the room for more; of each frame the bytes of its tile, and 1 more
-- than the page for which it was filled since it could be, or 0
pub record TableView : Type 0 where
  pub shape : Shape
  pub frames : ℕ
  pub changes : List Change
  pub spare : ℕ
  pub tiles : List (List ℕ)
  pub owners : List ℕ

-- the bytes of the tile with which a frame was last filled
abbrev pub tile_of : TableView → ℕ → List ℕ
tile_of v frame = slice_index_or v.tiles frame []

-- for which page each frame was filled since it could be, if it was
abbrev pub filled_for : TableView → Table
filled_for v = entries_of v.owners

-- for which page each frame was filled since it could be, after a change: a frame that is unmapped can be filled anew
abbrev pub filled_after : Table → Change → Table
filled_after m (Map page frame) = m
filled_after m (Unmap page frame) = with_entry m frame None

-- the frame that a change maps a page to was last filled for that page since it could be filled
abbrev pub IsReady : TableView → Change → Type 0
IsReady v (Map page frame) = filled_for v frame ≡ Some page
IsReady v (Unmap page frame) = Unit {0}

-- the page and the frame of a change are the table's
pub record IsTableChange (v : TableView) (change : Change) : Type 0 where
  pub page_inside : change_page change < pages_of v.shape
  pub frame_inside : change_frame change < v.frames

-- a page is mapped to the frame
abbrev pub IsMappedTo : Table → ℕ → Type 0
IsMappedTo m frame = (page : ℕ) × (m page ≡ Some frame)

-- the bytes of a tile: those of its texels at some depth, row by row
pub record IsTile (s : Shape) (tile : List ℕ) : Type 0 where
  pub depth : ℕ
  pub lawful : IsDepth depth
  pub full : length tile ≡ texel_length depth * (s.tile * s.tile)

-- how many bytes a sample of a tile has
unfoldable pub tile_depth : Shape → List ℕ → ℕ
tile_depth s tile = length tile / (3 * (s.tile * s.tile))

-- the texel word at a place of a tile, at the tile's own depth
unfoldable pub tile_word : Shape → List ℕ → ℕ → ℕ
tile_word s tile place = word_at (tile_depth s tile) tile place

-- the texel word at a place of the tile of a frame
abbrev pub word_in : TableView → ℕ → ℕ → ℕ
word_in v frame place = tile_word v.shape (tile_of v frame) place

-- what holds of every table: its journal is legal, its mapped pages are in frames that it has, each in one of its own, and each such frame
-- was filled for its page
pub record IsTable (v : TableView) : Type 0 where
  pub limits : IsWithinLimits v.shape
  pub some_frame : 1 ≤ v.frames
  pub few_frames : v.frames ≤ most_frames
  pub legal : AreLegal v.shape v.changes
  pub one_to_one : IsOneToOne (newest v.changes)
  pub pages_inside : (page frame : ℕ) → newest v.changes page ≡ Some frame → page < pages_of v.shape
  pub frames_inside : (page frame : ℕ) → newest v.changes page ≡ Some frame → frame < v.frames
  pub filled : (page frame : ℕ) → newest v.changes page ≡ Some frame → filled_for v frame ≡ Some page

-- each mapped page's frame holds the tile that is given for the page
abbrev pub HoldsTiles : (ℕ → List ℕ) → TableView → Type 0
HoldsTiles tiles v = (page frame : ℕ) → newest v.changes page ≡ Some frame → tile_of v frame ≡ tiles page

-- the frame that a change maps a page to holds the tile that is given for the page
abbrev pub BringsTile : (ℕ → List ℕ) → TableView → Change → Type 0
BringsTile tiles v (Map page frame) = tile_of v frame ≡ tiles page
BringsTile tiles v (Unmap page frame) = Unit {0}
