-- What was read under a hold, and when that is true of a journal.
use Rattle.std.specs.Prelude.{◌≡◌, ℕ, ◌+◌, ◌<◌, ◌≤◌, List, length, Option, None, Some, slice_index}
use Rattle.vt_journal.specs.declared.changes.Change.{Change}
use Rattle.vt_journal.specs.Changes.{at}
use Rattle.vt_grace.specs.declared.sizes.Sizes.{Sizes}
use Rattle.vt_grace.specs.declared.views.EntryNote.{EntryNote}
use Rattle.vt_grace.specs.declared.views.WordNote.{WordNote}
use Rattle.vt_grace.specs.Contents.{backed}

-- the number that a bank has for a page: 0, or one more than the page's frame
abbrev pub entry_number : Option ℕ → ℕ
entry_number None = 0
entry_number (Some frame) = frame + 1

-- a note of an entry is true: the note's version has it for the page
pub record IsTrueNote (z : Sizes) (journal : List Change) (n : EntryNote) : Type 0 where
  pub inside : n.page < z.pages
  pub known : n.version ≤ length journal
  pub small : n.entry ≤ z.frames
  pub is : n.entry ≡ entry_number (at journal n.version n.page)

-- a note of a texel word is true: the note's version maps a page to the frame, and the word is one of the content that the page was mapped with
pub record IsTrueWord (journal : List Change) (contents : List (List ℕ)) (n : WordNote) : Type 0 where
  pub known : n.version ≤ length journal
  pub page : ℕ
  pub content : List ℕ
  pub is : backed journal contents n.version page ≡ Some (n.frame, content)
  pub word : slice_index content n.place ≡ n.word
