-- The first faulty line of a journal's text.
use Rattle.std.specs.Prelude.{◌≡◌, ℕ, ◌+◌, ◌-◌, ◌<◌, ◌≤◌, ◌⊎◌, List, [], ◌∷◌, ◌++◌, length, Some, None, slice_get}
use Rattle.vt_text.specs.Lines.{fields_of, lines_of}
use Rattle.vt_pages.specs.Shape.{Shape}
use Rattle.vt_pages.specs.Pages.{pages_of}
use Rattle.vt_journal.specs.declared.changes.Change.{Change}
use Rattle.vt_journal.specs.declared.changes.Change.TheVariants.{Map, Unmap}
use Rattle.vt_journal.specs.declared.changes.RowLine.{RowLine}
use Rattle.vt_journal.specs.declared.lines.Line.{Line}
use Rattle.vt_journal.specs.declared.lines.Line.TheVariants.{Begins, Makes, Loses, Draws}
use Rattle.vt_journal.specs.declared.parse.JournalError.{JournalError}
use Rattle.vt_journal.specs.declared.parse.JournalError.TheVariants.{BadLine}
use Rattle.vt_text.specs.Limits.{most_frames, most_samplers}
use Rattle.vt_journal.specs.Changes.{newest, IsNext}
use Rattle.vt_journal.specs.Lookups.{change_page}
use Rattle.vt_journal.specs.JournalText.{Content, line_fields, content_lines}

-- what a journal's text has said so far: the changes, the number of passes, and of the last pass its picture, the version at its beginning and its rows
pub record Reading : Type 0 where
  pub changes : List Change
  pub passes : ℕ
  pub picture : ℕ
  pub start : ℕ
  pub rows : List RowLine

-- before the first line
abbrev pub nothing_read : Reading
nothing_read = record { changes = []; passes = 0; picture = 0; start = 0; rows = [] }

-- how many pages are pinned: the first change maps the first of them, and the last page is the last of them
abbrev pub pinned_by : Shape → List Change → ℕ
pinned_by s [] = 0
pinned_by s (change ∷ changes) = pages_of s - change_page change

-- the line of a map is in the head: the first may map any page, a further one maps the next, and the frames are 0, 1 and so on
pub record IsInHead (s : Shape) (r : Reading) (page frame : ℕ) : Type 0 where
  pub no_pass : r.passes ≡ 0
  pub next_frame : frame ≡ length r.changes
  pub next_page : 1 ≤ length r.changes → page + pinned_by s r.changes ≡ pages_of s + length r.changes

-- in a pass, before its rows
abbrev pub IsBeforeRows : Reading → Type 0
IsBeforeRows r = (1 ≤ r.passes) × (r.rows ≡ [])

-- the change may be there: page and frame are within their bounds, and an unmapped page is not pinned
abbrev pub IsPlaced : Shape → Reading → Change → Type 0
IsPlaced s r (Map page frame) = (page < pages_of s) × (frame < most_frames) × (IsInHead s r page frame ⊎ IsBeforeRows r)
IsPlaced s r (Unmap page frame) =
    (page < pages_of s) × (frame < most_frames) × (page + pinned_by s r.changes < pages_of s) × IsBeforeRows r

-- the head is whole, or the last pass has all its rows
pub record IsComplete (s : Shape) (height : ℕ) (r : Reading) : Type 0 where
  pub head : r.passes ≡ 0 → (1 ≤ length r.changes) × (length r.changes ≡ pinned_by s r.changes)
  pub rows : 1 ≤ r.passes → length r.rows ≡ height

-- the first pass has picture 0, and each later one the picture before or the next
pub record IsNextPicture (passes before picture : ℕ) : Type 0 where
  pub first : passes ≡ 0 → picture ≡ 0
  pub later : 1 ≤ passes → (picture ≡ before) ⊎ (picture ≡ before + 1)

-- the next row of the last pass: its version is one of the pass, and not below one that its sampler had in this pass
pub record IsNextRow (height : ℕ) (r : Reading) (row : RowLine) : Type 0 where
  pub in_pass : 1 ≤ r.passes
  pub next : row.row ≡ length r.rows
  pub inside : row.row < height
  pub sampler : row.sampler < most_samplers
  pub from : r.start ≤ row.version
  pub to : row.version ≤ length r.changes
  pub rises : (k : ℕ) (before : RowLine) → slice_get r.rows k ≡ Some before → before.sampler ≡ row.sampler
      → before.version ≤ row.version

-- the line may come next
abbrev pub Admits : Shape → ℕ → Reading → Line → Type 0
Admits s height r (Begins pass picture start) =
    IsComplete s height r × (pass ≡ r.passes + 1) × IsNextPicture r.passes r.picture picture × (start ≡ length r.changes)
Admits s height r (Makes version change) =
    (version ≡ length r.changes + 1) × IsPlaced s r change × IsNext (newest r.changes) change
Admits s height r (Loses page) = IsBeforeRows r × (page < pages_of s) × (newest r.changes page ≡ None)
Admits s height r (Draws row) = IsNextRow height r row

-- what was read once the line has said its part
abbrev pub after : Reading → Line → Reading
after r (Begins pass picture start) = record { changes = r.changes; passes = pass; picture = picture; start = start; rows = [] }
after r (Makes version change) =
    record { changes = r.changes ++ change ∷ []; passes = r.passes; picture = r.picture; start = r.start; rows = r.rows }
after r (Loses page) = r
after r (Draws row) =
    record { changes = r.changes; passes = r.passes; picture = r.picture; start = r.start; rows = r.rows ++ row ∷ [] }

-- each of the lines may come after those before it
abbrev pub AreAdmitted : Shape → ℕ → Reading → List Line → Type 0
AreAdmitted s height r [] = Unit {0}
AreAdmitted s height r (line ∷ lines) = Admits s height r line × AreAdmitted s height (after r line) lines

-- what was read once all the lines have said their parts
abbrev pub after_all : Reading → List Line → Reading
after_all r [] = r
after_all r (line ∷ lines) = after_all (after r line) lines

-- each line of the content may come after those before it, and none is missing
pub record IsLawfulJournal (s : Shape) (height : ℕ) (content : Content) : Type 0 where
  pub admitted : AreAdmitted s height nothing_read (content_lines s content)
  pub complete : IsComplete s height (after_all nothing_read (content_lines s content))

-- the bytes say a line that may come next
abbrev pub SaysNext : Shape → ℕ → Reading → List ℕ → Line → Type 0
SaysNext s height r bytes line = Admits s height r line × (fields_of bytes ≡ line_fields s line)

-- the first refusal of these lines, of which the first has this number and comes after what was read; the text may end only
-- where it is complete, and nothing may follow the last line feed
abbrev pub IsJournalFlawFrom : Shape → ℕ → ℕ → Reading → List (List ℕ) → JournalError → Type 0
IsJournalFlawFrom s height number r [] e = ⊥
IsJournalFlawFrom s height number r (rest ∷ []) e = (rest ≡ [] → ¬ IsComplete s height r) × (e ≡ BadLine number)
IsJournalFlawFrom s height number r (bytes ∷ next ∷ lines) e =
    (((line : Line) → ¬ SaysNext s height r bytes line) × (e ≡ BadLine number))
    ⊎ ((line : Line) × SaysNext s height r bytes line × IsJournalFlawFrom s height (number + 1) (after r line) (next ∷ lines) e)

-- the text has a faulty line, and the first is refused in this way
abbrev pub IsJournalFlaw : Shape → ℕ → List ℕ → JournalError → Type 0
IsJournalFlaw s height text e = IsJournalFlawFrom s height 1 nothing_read (lines_of text) e
