-- What the reader keeps of a journal beside its changes: the newest version, by pages and by frames.
use Rattle.std.specs.Prelude.{◌≡◌, ℕ, zero, suc, ◌<◌, ◌≤◌, Option, Some, None, List, length, slice_index}
use Rattle.vt_text.specs.Limits.{most_pages, most_frames}
use Rattle.vt_journal.specs.declared.changes.Change.{Change}
use Rattle.vt_journal.specs.declared.changes.Change.TheVariants.{Map, Unmap}
use Rattle.vt_journal.specs.Changes.{Table}

-- an entry by its number: 0 for none, and else one more than what it gives
abbrev pub entry_of : ℕ → Option ℕ
entry_of zero = None
entry_of (suc n) = Some n

-- the entries by their numbers
abbrev pub entries_of : List ℕ → Table
entries_of numbers p = entry_of (slice_index numbers p)

-- the frames of pages and the pages of frames give each other
pub record ArePaired (frames pages : List ℕ) : Type 0 where
  pub few_pages : length frames ≤ most_pages
  pub all_frames : length pages ≡ most_frames
  pub by_page : (p f : ℕ) → slice_index frames p ≡ suc f → (f < most_frames) × (slice_index pages f ≡ suc p)
  pub by_frame : (f p : ℕ) → slice_index pages f ≡ suc p → slice_index frames p ≡ suc f

-- the page and the frame of a change are within the bounds of so many pages
pub record IsWithinTable (pages : ℕ) (page frame : ℕ) : Type 0 where
  pub page_inside : page < pages
  pub frame_inside : frame < most_frames

-- the changes of a journal, over so many pages
pub record KeptView : Type 0 where
  pub changes : List Change
  pub pages : ℕ

-- the frame that a change maps a page to, or unmaps it from
abbrev pub change_frame : Change → ℕ
change_frame (Map page frame) = frame
change_frame (Unmap page frame) = frame
