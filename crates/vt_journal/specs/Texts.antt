-- The content of a journal's text, as it is read.
use Rattle.std.specs.Prelude.{◌≡◌, ℕ, List, map}
use Rattle.vt_pages.specs.Shape.{Shape}
use Rattle.vt_journal.specs.declared.changes.Change.{Change}
use Rattle.vt_journal.specs.declared.passes.PassText.{PassText}
use Rattle.vt_journal.specs.Passes.{pass_of}
use Rattle.vt_journal.specs.JournalText.{Content, journal_text, content_changes}
use Rattle.vt_journal.specs.JournalFlaws.{IsLawfulJournal}

-- what a text tells, and the changes of its journal
pub record TextView : Type 0 where
  pub content : Content
  pub changes : List Change

-- the text is that of a lawful content, and the changes are those of its journal
pub record IsJournalText (s : Shape) (height : ℕ) (text : List ℕ) (view : TextView) : Type 0 where
  pub spelled : text ≡ journal_text s view.content
  pub lawful : IsLawfulJournal s height view.content
  pub changes_are : view.changes ≡ content_changes s view.content

-- the text is that of so many pinned pages and these passes, and a journal has its changes
abbrev pub SpellsPasses : Shape → ℕ → List ℕ → ℕ → List PassText → List Change → Type 0
SpellsPasses s height text pinned passes changes =
    IsJournalText s height text (record { content = record { pinned = pinned; passes = map pass_of passes }; changes = changes })
