-- What the reading of a journal's lines finds, before a content is made of it.
use Rattle.std.specs.Prelude.{◌≡◌, ◌≢◌, ℕ, ◌+◌, ◌<◌, ◌≤◌, ◌^◌, ◌⊎◌, List, [], ◌∷◌, ◌++◌, map, length, drop, Option, Some, slice_get, slice_index, MatchOption}
use Rattle.std.specs.List.{join_with_byte, flat_map, range_with_len}
use Rattle.vt_text.specs.Limits.{blank, most_versions, most_frames, most_samplers}
use Rattle.vt_text.specs.Numbers.{number_spelling}
use Rattle.vt_text.specs.Lines.{fields_of, lines_of}
use Rattle.vt_pages.specs.Shape.{Shape}
use Rattle.vt_pages.specs.Pages.{pages_of, name_at, IsWithinLimits}
use Rattle.vt_journal.specs.declared.changes.Change.{Change}
use Rattle.vt_journal.specs.declared.changes.Change.TheVariants.{Map, Unmap}
use Rattle.vt_journal.specs.declared.changes.RowLine.{RowLine}
use Rattle.vt_journal.specs.declared.changes.Event.{Event}
use Rattle.vt_journal.specs.declared.passes.PassText.{PassText}
use Rattle.vt_journal.specs.declared.lines.Line.{Line}
use Rattle.vt_journal.specs.declared.lines.Line.TheVariants.{Begins, Makes, Loses, Draws}
use Rattle.vt_journal.specs.declared.parse.JournalError.{JournalError}
use Rattle.vt_journal.specs.declared.parse.JournalError.TheVariants.{NoMemory}
use Rattle.vt_journal.specs.JournalText.{line_fields, changes_of, event_lines, pass_lines, passes_changes, pinned_change}
use Rattle.vt_journal.specs.Changes.{newest, IsNext}
use Rattle.vt_text.specs.Lists.{ListView}
use Rattle.vt_journal.specs.Kept.{KeptView}
use Rattle.vt_journal.specs.JournalFlaws.{Reading, nothing_read, AreAdmitted, after_all, IsComplete, IsNextPicture, IsJournalFlawFrom, pinned_by}
use Rattle.vt_journal.specs.Passes.{pass_of}

-- a field of a line is a number up to a limit, or no such number
abbrev pub IsNumberAt : List ℕ → ℕ → ℕ → Option ℕ → Type 0
IsNumberAt line i most found = MatchOption found ((n : ℕ) → n ≤ most → slice_get (fields_of line) i ≢ Some (number_spelling n))
    (λ n. (n ≤ most) × (slice_get (fields_of line) i ≡ Some (number_spelling n)))

-- a page is in a line from a field on
pub record StandsAt (s : Shape) (line : List ℕ) (i page : ℕ) : Type 0 where
  pub inside : page < pages_of s
  pub level : slice_get (fields_of line) i ≡ Some (number_spelling (name_at s page).level)
  pub col : slice_get (fields_of line) (i + 1) ≡ Some (number_spelling (name_at s page).col)
  pub row : slice_get (fields_of line) (i + 2) ≡ Some (number_spelling (name_at s page).row)

-- the numbers of a line that begins a pass are within the bounds that the reader knows
pub record AreBeginNumbers (pass picture start : ℕ) : Type 0 where
  pub pass_inside : pass < 2 ^ 32
  pub picture_inside : picture < 2 ^ 32
  pub start_inside : start < 2 ^ 63

-- so are those of a change
pub record ArePairNumbers (s : Shape) (version page frame : ℕ) : Type 0 where
  pub version_inside : version < 2 ^ 63
  pub page_inside : page < pages_of s
  pub frame_inside : frame < most_frames

-- so are those of a row
pub record AreRowNumbers (row : RowLine) : Type 0 where
  pub row_inside : row.row < 2 ^ 32
  pub sampler_inside : row.sampler < most_samplers
  pub version_inside : row.version < 2 ^ 63

-- the numbers of a line are within the bounds that the reader knows
abbrev pub IsReadable : Shape → Line → Type 0
IsReadable s (Begins pass picture start) = AreBeginNumbers pass picture start
IsReadable s (Makes version (Map page frame)) = ArePairNumbers s version page frame
IsReadable s (Makes version (Unmap page frame)) = ArePairNumbers s version page frame
IsReadable s (Loses page) = page < pages_of s
IsReadable s (Draws row) = AreRowNumbers row

-- the bytes say this line
pub record Says (s : Shape) (bytes : List ℕ) (line : Line) : Type 0 where
  pub readable : IsReadable s line
  pub fields : fields_of bytes ≡ line_fields s line

-- the bytes of a line without its line feed
abbrev pub line_bytes : Shape → Line → List ℕ
line_bytes s line = join_with_byte blank (line_fields s line)

-- the place and the number of a line of a text
pub record IsCursor (text : List ℕ) (at number : ℕ) : Type 0 where
  pub within : at ≤ length text
  pub few : number ≤ at + 1

-- a line is at a place, and another place comes after it
pub record IsLineRead (s : Shape) (text : List ℕ) (at number : ℕ) (line : Line) (next_at next_number : ℕ) : Type 0 where
  pub bytes : List ℕ
  pub says : Says s bytes line
  pub cut : lines_of (drop at text) ≡ bytes ∷ lines_of (drop next_at text)
  pub number_is : next_number ≡ number + 1
  pub forward : at < next_at
  pub cursor : IsCursor text next_at next_number

-- no line is at a place that the reader knows
abbrev pub IsNoLine : Shape → List ℕ → ℕ → Type 0
IsNoLine s text at = (line : Line) (bytes next : List ℕ) (rest : List (List ℕ))
    → lines_of (drop at text) ≡ bytes ∷ next ∷ rest → ¬ Says s bytes line

-- lines that may come after what was read are from one place to another
pub record Advances (s : Shape) (height : ℕ) (text : List ℕ) (r : Reading) (at number : ℕ) (lines : List Line) (next_at next_number : ℕ) : Type 0 where
  pub spelled : lines_of (drop at text) ≡ map (line_bytes s) lines ++ lines_of (drop next_at text)
  pub admitted : AreAdmitted s height r lines
  pub number_is : next_number ≡ number + length lines
  pub forward : at + length lines ≤ next_at
  pub cursor : IsCursor text next_at next_number

-- memory was refused, or this is the first refusal of the lines from a place on
abbrev pub IsJournalRefusal : Shape → ℕ → List ℕ → Reading → ℕ → ℕ → JournalError → Type 0
IsJournalRefusal s height text r at number e = (e ≡ NoMemory) ⊎ IsJournalFlawFrom s height number r (lines_of (drop at text)) e

-- tiles have a side, and what was read fits the reader's numbers
pub record IsSmall (s : Shape) (height : ℕ) (r : Reading) : Type 0 where
  pub tile : 1 ≤ s.tile
  pub short : height < 2 ^ 32
  pub passes : r.passes + 1 < 2 ^ 32
  pub picture : r.picture ≤ r.passes
  pub changes : length r.changes ≤ most_versions

-- the change does not unmap one of the last so many pages
abbrev pub IsUnpinned : Shape → ℕ → Change → Type 0
IsUnpinned s pinned (Map page frame) = Unit {0}
IsUnpinned s pinned (Unmap page frame) = page + pinned < pages_of s

-- a change that makes a version may come among the events of a pass
pub record IsEventChange (s : Shape) (changes : List Change) (pinned version : ℕ) (change : Change) : Type 0 where
  pub version_is : version ≡ length changes + 1
  pub unpinned : IsUnpinned s pinned change
  pub next : IsNext (newest changes) change

-- what was read when a journal has these changes, and its last pass is this
abbrev pub reading_of : List Change → PassText → Reading
reading_of changes pass = record { changes = changes; passes = pass.pass; picture = pass.picture; start = pass.start; rows = pass.rows.elements }

-- a pass that has no rows yet, in a journal over so many pages of which so many are pinned
pub record IsInPass (s : Shape) (height : ℕ) (changes : List Change) (pages pinned : ℕ) (pass : PassText) : Type 0 where
  pub small : IsSmall s height (reading_of changes pass)
  pub some : 1 ≤ length changes
  pub pinned_is : pinned ≡ pinned_by s changes
  pub pages_is : pages ≡ pages_of s
  pub in_pass : 1 ≤ pass.pass
  pub no_rows : pass.rows.elements ≡ []

-- two texts of passes are one but for their events
pub record AreSameButEvents (before after : PassText) : Type 0 where
  pub pass : after.pass ≡ before.pass
  pub picture : after.picture ≡ before.picture
  pub start : after.start ≡ before.start
  pub rows : after.rows.elements ≡ before.rows.elements

-- two texts of passes are one but for their rows
pub record AreSameButRows (before after : PassText) : Type 0 where
  pub pass : after.pass ≡ before.pass
  pub picture : after.picture ≡ before.picture
  pub start : after.start ≡ before.start
  pub events : after.events.elements ≡ before.events.elements

-- an event was added to a pass, and its change to a journal
pub record IsEventAdded (before after : KeptView) (pass pass_after : PassText) (event : Event) : Type 0 where
  pub added : pass_after.events.elements ≡ pass.events.elements ++ event ∷ []
  pub changes_are : after.changes ≡ before.changes ++ changes_of (event ∷ [])
  pub pages_are : after.pages ≡ before.pages
  pub same : AreSameButEvents pass pass_after

-- events were read from one place to another: a pass has them, and a journal their changes
pub record AreEventsRead (s : Shape) (height : ℕ) (text : List ℕ) (before after : List Change)
    (pass pass_after : PassText) (at number next_at next_number : ℕ) : Type 0 where
  pub events : List Event
  pub added : pass_after.events.elements ≡ pass.events.elements ++ events
  pub changes_are : after ≡ before ++ changes_of events
  pub same : AreSameButEvents pass pass_after
  pub advances : Advances s height text (reading_of before pass) at number (event_lines (length before) events) next_at next_number

-- the line says no event
abbrev pub IsNoEvent : Line → Type 0
IsNoEvent (Begins pass picture start) = Unit {0}
IsNoEvent (Makes version change) = ⊥
IsNoEvent (Loses page) = ⊥
IsNoEvent (Draws row) = Unit {0}

-- no line that says an event is at a place
abbrev pub IsNoEventAt : Shape → List ℕ → ℕ → Type 0
IsNoEventAt s text at = (line : Line) (bytes : List ℕ) (rest : List (List ℕ))
    → lines_of (drop at text) ≡ bytes ∷ rest → rest ≢ [] → Says s bytes line → IsNoEvent line

-- what was read when a pass has rows besides
abbrev pub with_rows : List Change → PassText → List RowLine → Reading
with_rows changes pass rows = record { changes = changes; passes = pass.pass; picture = pass.picture; start = pass.start; rows = rows }

-- the least version that each sampler may have in the next row: that of its last row, or that at the beginning of the pass
pub record AreSeen (start : ℕ) (rows : List RowLine) (seen : List ℕ) : Type 0 where
  pub count : length seen ≡ most_samplers
  pub from : (k : ℕ) → k < most_samplers → start ≤ slice_index seen k
  pub most : (i : ℕ) (row : RowLine) → slice_get rows i ≡ Some row → row.version ≤ slice_index seen row.sampler
  pub some : (k : ℕ) → k < most_samplers → (slice_index seen k ≡ start)
      ⊎ ((i : ℕ) × (row : RowLine) × (slice_get rows i ≡ Some row) × (row.sampler ≡ k) × (row.version ≡ slice_index seen k))

-- the row comes next after so many, by what its sampler has seen and the newest version
pub record IsRowInTurn (rows : ℕ) (seen : List ℕ) (version : ℕ) (row : RowLine) : Type 0 where
  pub next : row.row ≡ rows
  pub rises : slice_index seen row.sampler ≤ row.version
  pub to : row.version ≤ version

-- a pass, as far as its rows were read
pub record AreRowsBegun (s : Shape) (height : ℕ) (changes : List Change) (pass : PassText) (rows : List RowLine) (seen : List ℕ) : Type 0 where
  pub small : IsSmall s height (with_rows changes pass rows)
  pub in_pass : 1 ≤ pass.pass
  pub seen_are : AreSeen pass.start rows seen

-- a row was read and added
pub record IsRowRead (s : Shape) (height : ℕ) (text : List ℕ) (changes : List Change) (pass : PassText)
    (rows rows_after : ListView RowLine) (seen_after : List ℕ) (at number next_at next_number : ℕ) : Type 0 where
  pub row : RowLine
  pub added : rows_after.elements ≡ rows.elements ++ row ∷ []
  pub spare : rows.spare ≤ rows_after.spare + 1
  pub seen_are : AreSeen pass.start rows_after.elements seen_after
  pub advances : Advances s height text (with_rows changes pass rows.elements) at number (Draws row ∷ []) next_at next_number

-- the rows of a pass were read, all that a picture has
pub record AreRowsRead (s : Shape) (height : ℕ) (text : List ℕ) (changes : List Change) (pass : PassText)
    (at number : ℕ) (rows : List RowLine) (next_at next_number : ℕ) : Type 0 where
  pub count : length rows ≡ height
  pub no_event : rows ≡ [] → IsNoEventAt s text next_at
  pub advances : Advances s height text (with_rows changes pass []) at number (map Draws rows) next_at next_number

-- the events and the rows of a pass were read, from one place to another: a pass has them, and a journal the changes
pub record IsPassFilled (s : Shape) (height : ℕ) (text : List ℕ) (before after : List Change)
    (pass pass_after : PassText) (at number next_at next_number : ℕ) : Type 0 where
  pub middle : PassText
  pub rows_at : ℕ
  pub rows_number : ℕ
  pub few : length after ≤ most_versions
  pub events : AreEventsRead s height text before after pass middle at number rows_at rows_number
  pub rows : AreRowsRead s height text after middle rows_at rows_number pass_after.rows.elements next_at next_number
  pub same : AreSameButRows middle pass_after

-- what was read between two passes: the changes, the number of passes and the picture of the last one
pub record IsBetweenPasses (s : Shape) (height : ℕ) (changes : List Change) (passes picture : ℕ) (r : Reading) : Type 0 where
  pub small : IsSmall s height r
  pub changes_are : r.changes ≡ changes
  pub passes_are : r.passes ≡ passes
  pub picture_is : r.picture ≡ picture
  pub complete : IsComplete s height r

-- the numbers of a line that begins a pass are those of the next pass
pub record IsNextPassLine (version passes picture pass next_picture start : ℕ) : Type 0 where
  pub pass_is : pass ≡ passes + 1
  pub picture_is : IsNextPicture passes picture next_picture
  pub start_is : start ≡ version

-- what was read of the head alone
abbrev pub head_reading : List Change → Reading
head_reading changes = record { changes = changes; passes = 0; picture = 0; start = 0; rows = [] }

-- a pass was read, and a journal has its changes
pub record IsPassRead (s : Shape) (height : ℕ) (text : List ℕ) (r : Reading)
    (before after : List Change) (passes : ℕ) (pass : PassText) (at number next_at next_number : ℕ) : Type 0 where
  pub changes_are : after ≡ before ++ changes_of pass.events.elements
  pub few : length after ≤ most_versions
  pub pass_is : pass.pass ≡ passes + 1
  pub picture_is : pass.picture ≤ pass.pass
  pub rows_are : length pass.rows.elements ≡ height
  pub no_event : height ≡ 0 → IsNoEventAt s text next_at
  pub forward : at < next_at
  pub advances : Advances s height text r at number (pass_lines (pass_of pass)) next_at next_number

-- a journal of a whole head, over so many pages
pub record IsHeadWhole (s : Shape) (height : ℕ) (changes : List Change) (pages pinned : ℕ) : Type 0 where
  pub small : IsSmall s height (head_reading changes)
  pub some : 1 ≤ length changes
  pub whole : length changes ≡ pinned_by s changes
  pub pinned_is : pinned ≡ pinned_by s changes
  pub pages_is : pages ≡ pages_of s

-- passes were read up to a place, and a journal has their changes
pub record ArePassesRead (s : Shape) (height : ℕ) (text : List ℕ) (before after : List Change)
    (passes : List PassText) (picture at number next_at next_number : ℕ) : Type 0 where
  pub changes_are : after ≡ before ++ passes_changes (map pass_of passes)
  pub advances : Advances s height text (head_reading before) at number (flat_map pass_lines (map pass_of passes)) next_at next_number
  pub between : IsBetweenPasses s height after (length passes) picture (after_all (head_reading before) (flat_map pass_lines (map pass_of passes)))

-- passes were read to the end of the text
pub record AreAllPassesRead (s : Shape) (height : ℕ) (text : List ℕ) (before after : List Change) (passes : List PassText) (at : ℕ) : Type 0 where
  pub changes_are : after ≡ before ++ passes_changes (map pass_of passes)
  pub few : length passes < 2 ^ 32
  pub spelled : lines_of (drop at text) ≡ map (line_bytes s) (flat_map pass_lines (map pass_of passes)) ++ ([] ∷ [])
  pub admitted : AreAdmitted s height (head_reading before) (flat_map pass_lines (map pass_of passes))
  pub complete : IsComplete s height (after_all (head_reading before) (flat_map pass_lines (map pass_of passes)))

-- the lines of so many pinned pages were read
pub record IsHeadBegun (s : Shape) (height : ℕ) (text : List ℕ) (changes : List Change) (pinned place at number : ℕ) : Type 0 where
  pub some : 1 ≤ place
  pub most : place ≤ pinned
  pub few : pinned ≤ pages_of s
  pub changes_are : changes ≡ map (pinned_change s pinned) (range_with_len 0 place)
  pub advances : Advances s height text nothing_read 0 1 (map (λ i. Makes (i + 1) (pinned_change s pinned i)) (range_with_len 0 place)) at number

-- what the reader knows when the next pass is awaited
pub record IsAwaited (s : Shape) (height : ℕ) (changes : List Change) (pages pinned passes before : ℕ) : Type 0 where
  pub tile : 1 ≤ s.tile
  pub short : height < 2 ^ 32
  pub few_changes : length changes ≤ most_versions
  pub some : 1 ≤ length changes
  pub pinned_is : pinned ≡ pinned_by s changes
  pub pages_is : pages ≡ pages_of s
  pub few_passes : passes + 2 < 2 ^ 32
  pub picture : before ≤ passes

-- the limits of the pages and of the pictures that a text is for
pub record IsSource (s : Shape) (height : ℕ) : Type 0 where
  pub limits : IsWithinLimits s
  pub short : height < 2 ^ 32
