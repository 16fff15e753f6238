-- A pass that may come after others, by its parts.
use Rattle.std.specs.Prelude.{◌≡◌, ℕ, ◌+◌, ◌<◌, ◌≤◌, List, [], ◌∷◌, ◌++◌, length, None, Some, slice_get}
use Rattle.vt_pages.specs.Shape.{Shape}
use Rattle.vt_pages.specs.Pages.{pages_of}
use Rattle.vt_journal.specs.declared.changes.Change.{Change}
use Rattle.vt_journal.specs.declared.changes.Change.TheVariants.{Map, Unmap}
use Rattle.vt_journal.specs.declared.changes.Event.{Event}
use Rattle.vt_journal.specs.declared.changes.Event.TheVariants.{Changed, Lost}
use Rattle.vt_journal.specs.declared.changes.RowLine.{RowLine}
use Rattle.vt_text.specs.Limits.{most_frames, most_samplers}
use Rattle.vt_journal.specs.Changes.{newest, IsNext}
use Rattle.vt_journal.specs.JournalText.{Pass, Content, changes_of, pinned_changes}
use Rattle.vt_journal.specs.JournalFlaws.{IsNextPicture}

-- page and frame of a change are within their bounds, and it does not unmap one of the last so many pages
abbrev pub IsChangeWithin : Shape → ℕ → Change → Type 0
IsChangeWithin s pinned (Map page frame) = (page < pages_of s) × (frame < most_frames)
IsChangeWithin s pinned (Unmap page frame) = (page + pinned < pages_of s) × (frame < most_frames)

-- each event may come after those before it: a change may come next, and a lost page is not mapped
abbrev pub AreEventsAfter : Shape → ℕ → List Change → List Event → Type 0
AreEventsAfter s pinned changes [] = Unit {0}
AreEventsAfter s pinned changes (Changed change ∷ events) =
    IsChangeWithin s pinned change × IsNext (newest changes) change × AreEventsAfter s pinned (changes ++ change ∷ []) events
AreEventsAfter s pinned changes (Lost page ∷ events) =
    (page < pages_of s) × (newest changes page ≡ None) × AreEventsAfter s pinned changes events

-- a row of a pass: its place, its sampler, and a version of the pass
pub record IsRowOf (start last y : ℕ) (row : RowLine) : Type 0 where
  pub place : row.row ≡ y
  pub sampler : row.sampler < most_samplers
  pub from : start ≤ row.version
  pub to : row.version ≤ last

-- the rows of a picture, each with a version of the pass, and those of one sampler never fall
pub record AreRowsOf (height start last : ℕ) (rows : List RowLine) : Type 0 where
  pub count : length rows ≡ height
  pub each : (y : ℕ) (row : RowLine) → slice_get rows y ≡ Some row → IsRowOf start last y row
  pub rise : (i j : ℕ) (before row : RowLine) → i < j → slice_get rows i ≡ Some before → slice_get rows j ≡ Some row
      → before.sampler ≡ row.sampler → before.version ≤ row.version

-- a pass may come after so many passes, of which the last had the picture before, in a journal of these changes
pub record IsPassAfter (s : Shape) (height pinned : ℕ) (changes : List Change) (passes before : ℕ) (pass : Pass) : Type 0 where
  pub pass_is : pass.pass ≡ passes + 1
  pub picture_is : IsNextPicture passes before pass.picture
  pub start_is : pass.start ≡ length changes
  pub events : AreEventsAfter s pinned changes pass.events
  pub rows : AreRowsOf height pass.start (length changes + length (changes_of pass.events)) pass.rows

-- the passes follow one another from the head on
abbrev pub ArePassesAfter : Shape → ℕ → ℕ → List Change → ℕ → ℕ → List Pass → Type 0
ArePassesAfter s height pinned changes passes before [] = Unit {0}
ArePassesAfter s height pinned changes passes before (pass ∷ rest) =
    IsPassAfter s height pinned changes passes before pass
    × ArePassesAfter s height pinned (changes ++ changes_of pass.events) (passes + 1) pass.picture rest

-- so many pages may be pinned
pub record MayBePinned (s : Shape) (pinned : ℕ) : Type 0 where
  pub some : 1 ≤ pinned
  pub few : pinned ≤ pages_of s
  pub framed : pinned ≤ most_frames

-- a content is lawful by its parts: so many pages may be pinned, and the passes follow one another
pub record IsLawfulByParts (s : Shape) (height : ℕ) (content : Content) : Type 0 where
  pub head : MayBePinned s content.pinned
  pub passes : ArePassesAfter s height content.pinned (pinned_changes s content.pinned) 0 0 content.passes
