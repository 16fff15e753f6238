-- Which line of a journal's text a replay refuses.
use Rattle.std.specs.Prelude.{◌≡◌, ◌≢◌, ◌⊎◌, ℕ, ◌+◌, ◌<◌, ◌≤◌, List, Some, slice_get, codes}
use Rattle.vt_text.specs.Numbers.{number_spelling}
use Rattle.vt_text.specs.Lines.{fields_of, lines_of}
use Rattle.vt_pages.specs.Shape.{Shape}
use Rattle.vt_journal.specs.declared.parse.JournalError.TheVariants.{BadLine}
use Rattle.vt_journal.specs.JournalFlaws.{IsJournalFlaw}

-- the line begins a pass, and its fourth field is none of so many pictures
pub record BeginsOutside (pictures : ℕ) (line : List ℕ) : Type 0 where
  pub word : slice_get (fields_of line) 0 ≡ Some (codes "pass")
  pub outside : (picture : ℕ) → picture < pictures → slice_get (fields_of line) 3 ≢ Some (number_spelling picture)

-- the line of a text with this number, counted from 1, names a picture that is none of so many
pub record NamesOutside (pictures : ℕ) (text : List ℕ) (number : ℕ) : Type 0 where
  pub place : ℕ
  pub number_is : number ≡ place + 1
  pub line : List ℕ
  pub stands : slice_get (lines_of text) place ≡ Some line
  pub outside : BeginsOutside pictures line

-- the line with this number is the one that the journal's reader refuses, or it names a picture that the path has not
abbrev pub IsRefusedLine : Shape → ℕ → ℕ → List ℕ → ℕ → Type 0
IsRefusedLine s height pictures text number = IsJournalFlaw s height text (BadLine number) ⊎ NamesOutside pictures text number

-- it is the first such line
pub record IsFirstRefused (s : Shape) (height pictures : ℕ) (text : List ℕ) (number : ℕ) : Type 0 where
  pub refused : IsRefusedLine s height pictures text number
  pub first : (other : ℕ) → IsRefusedLine s height pictures text other → number ≤ other
