-- The text of a journal: a line for each pinned page, and then the lines of each pass.
use Rattle.std.specs.Prelude.{ℕ, ◌+◌, ◌-◌, ◌<◌, List, [], ◌∷◌, ◌++◌, map, codes}
use Rattle.std.specs.List.{join_with_byte, flat_map, range_with_len}
use Rattle.vt_text.specs.Limits.{line_feed, blank}
use Rattle.vt_text.specs.Numbers.{number_spelling}
use Rattle.vt_pages.specs.Shape.{Shape}
use Rattle.vt_pages.specs.Pages.{name_at, pages_of}
use Rattle.vt_journal.specs.declared.changes.Change.{Change}
use Rattle.vt_journal.specs.declared.changes.Change.TheVariants.{Map, Unmap}
use Rattle.vt_journal.specs.declared.changes.Event.{Event}
use Rattle.vt_journal.specs.declared.changes.Event.TheVariants.{Changed, Lost}
use Rattle.vt_journal.specs.declared.changes.RowLine.{RowLine}
use Rattle.vt_journal.specs.declared.lines.Line.{Line}
use Rattle.vt_journal.specs.declared.lines.Line.TheVariants.{Begins, Makes, Loses, Draws}

-- what a pass tells: its number, its picture, the version at its beginning, its events and its rows
pub record Pass : Type 0 where
  pub pass : ℕ
  pub picture : ℕ
  pub start : ℕ
  pub events : List Event
  pub rows : List RowLine

-- what a journal's text tells: how many pages are pinned, and the passes
pub record Content : Type 0 where
  pub pinned : ℕ
  pub passes : List Pass

-- the changes among events
abbrev pub changes_of : List Event → List Change
changes_of [] = []
changes_of (Changed change ∷ events) = change ∷ changes_of events
changes_of (Lost page ∷ events) = changes_of events

-- the change that maps a pinned page, by its place among so many
abbrev pub pinned_change : Shape → ℕ → ℕ → Change
pinned_change s pinned i = Map (pages_of s - pinned + i) i

-- the changes that map the pinned pages
abbrev pub pinned_changes : Shape → ℕ → List Change
pinned_changes s pinned = map (pinned_change s pinned) (range_with_len 0 pinned)

-- the changes of all passes
abbrev pub passes_changes : List Pass → List Change
passes_changes passes = flat_map (λ pass. changes_of pass.events) passes

-- the changes of the journal of a content
abbrev pub content_changes : Shape → Content → List Change
content_changes s content = pinned_changes s content.pinned ++ passes_changes content.passes

-- the lines of events after a version: a change makes the next version
abbrev pub event_lines : ℕ → List Event → List Line
event_lines v [] = []
event_lines v (Changed change ∷ events) = Makes (v + 1) change ∷ event_lines (v + 1) events
event_lines v (Lost page ∷ events) = Loses page ∷ event_lines v events

-- the lines of a pass
abbrev pub pass_lines : Pass → List Line
pass_lines pass = Begins pass.pass pass.picture pass.start ∷ event_lines pass.start pass.events ++ map Draws pass.rows

-- the lines of the pinned pages
abbrev pub head_lines : Shape → ℕ → List Line
head_lines s pinned = map (λ i. Makes (i + 1) (pinned_change s pinned i)) (range_with_len 0 pinned)

-- all lines of a journal
abbrev pub content_lines : Shape → Content → List Line
content_lines s content = head_lines s content.pinned ++ flat_map pass_lines content.passes

-- the fields of a page: its level, its column and its row
abbrev pub page_fields : Shape → ℕ → List (List ℕ)
page_fields s p = number_spelling (name_at s p).level ∷ number_spelling (name_at s p).col ∷ number_spelling (name_at s p).row ∷ []

-- the fields of a change that makes a version, by its word, its page and its frame
abbrev pub pair_fields : Shape → List ℕ → ℕ → ℕ → ℕ → List (List ℕ)
pair_fields s word v page frame = word ∷ number_spelling v ∷ page_fields s page ++ number_spelling frame ∷ []

-- the fields of a change that makes a version
abbrev pub change_fields : Shape → ℕ → Change → List (List ℕ)
change_fields s v (Map page frame) = pair_fields s (codes "map") v page frame
change_fields s v (Unmap page frame) = pair_fields s (codes "unmap") v page frame

-- the fields of the first line of a pass
abbrev pub begin_fields : ℕ → ℕ → ℕ → List (List ℕ)
begin_fields pass picture start =
    codes "pass" ∷ number_spelling pass ∷ codes "picture" ∷ number_spelling picture ∷ codes "start" ∷ number_spelling start ∷ []

-- the fields of a lost page
abbrev pub loss_fields : Shape → ℕ → List (List ℕ)
loss_fields s page = codes "lost" ∷ page_fields s page

-- the fields of a row
abbrev pub row_fields : RowLine → List (List ℕ)
row_fields row = codes "row" ∷ number_spelling row.row ∷ number_spelling row.sampler ∷ number_spelling row.version ∷ []

-- the fields of a line
abbrev pub line_fields : Shape → Line → List (List ℕ)
line_fields s (Begins pass picture start) = begin_fields pass picture start
line_fields s (Makes version change) = change_fields s version change
line_fields s (Loses page) = loss_fields s page
line_fields s (Draws row) = row_fields row

-- the bytes of a line: its fields, joined by blanks, and a line feed
abbrev pub line_text : Shape → Line → List ℕ
line_text s line = join_with_byte blank (line_fields s line) ++ line_feed ∷ []

-- the bytes of lines
abbrev pub lines_text : Shape → List Line → List ℕ
lines_text s lines = flat_map (line_text s) lines

-- the text of the pinned pages
abbrev pub head_text : Shape → ℕ → List ℕ
head_text s pinned = lines_text s (head_lines s pinned)

-- the text of a pass
abbrev pub pass_text : Shape → Pass → List ℕ
pass_text s pass = lines_text s (pass_lines pass)

-- the text of a journal: that of the pinned pages, and that of each pass
abbrev pub journal_text : Shape → Content → List ℕ
journal_text s content = head_text s content.pinned ++ flat_map (pass_text s) content.passes

-- the pages that a line names are in the chain
abbrev pub IsLineInChain : Shape → Line → Type 0
IsLineInChain s (Begins pass picture start) = Unit {0}
IsLineInChain s (Makes version (Map page frame)) = page < pages_of s
IsLineInChain s (Makes version (Unmap page frame)) = page < pages_of s
IsLineInChain s (Loses page) = page < pages_of s
IsLineInChain s (Draws row) = Unit {0}

-- the page that an event names is in the chain
abbrev pub IsEventInChain : Shape → Event → Type 0
IsEventInChain s (Changed (Map page frame)) = page < pages_of s
IsEventInChain s (Changed (Unmap page frame)) = page < pages_of s
IsEventInChain s (Lost page) = page < pages_of s

-- fields, each behind a blank
abbrev pub behind_blanks : List (List ℕ) → List ℕ
behind_blanks fields = flat_map (λ field. blank ∷ field) fields
