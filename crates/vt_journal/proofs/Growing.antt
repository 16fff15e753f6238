-- What is true of a lawful content, and how one grows.
use Rattle.std.proofs.Common.{◌≡◌, ℕ, ◌+◌, List, [], ◌∷◌, ◌++◌, map, refl, sym, ap, ◌∙◌, subst, append_assoc}
use Rattle.std.specs.List.{flat_map, range_with_len}
use Rattle.std.proofs.lemmas.List.{append-nil}
use Rattle.std.proofs.lemmas.List.Concat.{flat_map-append}
use Rattle.vt_pages.specs.Shape.{Shape}
use Rattle.vt_journal.specs.declared.changes.Change.{Change}
use Rattle.vt_journal.specs.declared.changes.Event.{Event}
use Rattle.vt_journal.specs.declared.changes.Event.TheVariants.{Changed, Lost}
use Rattle.vt_journal.specs.declared.changes.RowLine.{RowLine}
use Rattle.vt_journal.specs.declared.lines.Line.{Line}
use Rattle.vt_journal.specs.declared.lines.Line.TheVariants.{Begins, Makes, Loses, Draws}
use Rattle.vt_journal.specs.Changes.{AreInTurn}
use Rattle.vt_journal.specs.JournalText.{Pass, Content, content_lines, content_changes, pinned_change, pinned_changes, passes_changes, changes_of, event_lines, pass_lines, head_lines}
use Rattle.vt_journal.specs.JournalFlaws.{Reading, nothing_read, Admits, after, AreAdmitted, after_all, IsComplete, IsLawfulJournal}
use Rattle.vt_journal.proofs.Versions.{in_turn-none, in_turn-more}
use Rattle.vt_journal.proofs.Stepping.{admitted-append, after_all-append}

-- the changes that lines tell come in turn
next_of : (s : Shape) (height : ℕ) (r : Reading) (l : Line) → Admits s height r l → AreInTurn r.changes
    → AreInTurn (after r l).changes
next_of s height r (Begins n k v) a turn = turn
next_of s height r (Makes v c) a turn = in_turn-more r.changes c turn a.2
next_of s height r (Loses p) a turn = turn
next_of s height r (Draws row) a turn = turn

pub lines_in_turn : (s : Shape) (height : ℕ) (r : Reading) (ls : List Line) → AreAdmitted s height r ls → AreInTurn r.changes
    → AreInTurn (after_all r ls).changes
lines_in_turn s height r [] a turn = turn
lines_in_turn s height r (l ∷ ls) a turn = lines_in_turn s height (after r l) ls a.1 (next_of s height r l a.0 turn)

-- the changes that lines tell
abbrev lines_changes : List Line → List Change
lines_changes [] = []
lines_changes (Begins n k v ∷ ls) = lines_changes ls
lines_changes (Makes v c ∷ ls) = c ∷ lines_changes ls
lines_changes (Loses p ∷ ls) = lines_changes ls
lines_changes (Draws row ∷ ls) = lines_changes ls

spelled_changes : (r : Reading) (ls : List Line) → (after_all r ls).changes ≡ r.changes ++ lines_changes ls
spelled_changes r [] = sym (append-nil r.changes)
spelled_changes r (Begins n k v ∷ ls) = spelled_changes (after r (Begins n k v)) ls
spelled_changes r (Makes v c ∷ ls) = spelled_changes (after r (Makes v c)) ls ∙ append_assoc r.changes (c ∷ []) (lines_changes ls)
spelled_changes r (Loses p ∷ ls) = spelled_changes r ls
spelled_changes r (Draws row ∷ ls) = spelled_changes (after r (Draws row)) ls

changes-append : (ls ms : List Line) → lines_changes (ls ++ ms) ≡ lines_changes ls ++ lines_changes ms
changes-append [] ms = refl
changes-append (Begins n k v ∷ ls) ms = changes-append ls ms
changes-append (Makes v c ∷ ls) ms = ap (λ cs. c ∷ cs) (changes-append ls ms)
changes-append (Loses p ∷ ls) ms = changes-append ls ms
changes-append (Draws row ∷ ls) ms = changes-append ls ms

event_changes : (v : ℕ) (es : List Event) → lines_changes (event_lines v es) ≡ changes_of es
event_changes v [] = refl
event_changes v (Changed c ∷ es) = ap (λ cs. c ∷ cs) (event_changes (v + 1) es)
event_changes v (Lost p ∷ es) = event_changes v es

row_changes : (rows : List RowLine) → lines_changes (map Draws rows) ≡ []
row_changes [] = refl
row_changes (row ∷ rows) = row_changes rows

pass_changes : (p : Pass) → lines_changes (pass_lines p) ≡ changes_of p.events
pass_changes p =
    changes-append (event_lines p.start p.events) (map Draws p.rows)
    ∙ ap (λ cs. lines_changes (event_lines p.start p.events) ++ cs) (row_changes p.rows)
    ∙ append-nil (lines_changes (event_lines p.start p.events)) ∙ event_changes p.start p.events

all_pass_changes : (ps : List Pass) → lines_changes (flat_map pass_lines ps) ≡ passes_changes ps
all_pass_changes [] = refl
all_pass_changes (p ∷ ps) =
    changes-append (pass_lines p) (flat_map pass_lines ps)
    ∙ ap (λ cs. cs ++ lines_changes (flat_map pass_lines ps)) (pass_changes p)
    ∙ ap (λ cs. changes_of p.events ++ cs) (all_pass_changes ps)

head_changes : (s : Shape) (pinned : ℕ) (places : List ℕ)
    → lines_changes (map (λ i. Makes (i + 1) (pinned_change s pinned i)) places) ≡ map (pinned_change s pinned) places
head_changes s pinned [] = refl
head_changes s pinned (i ∷ places) = ap (λ cs. pinned_change s pinned i ∷ cs) (head_changes s pinned places)

-- what all lines of a content tell is the changes of its journal
pub spelled_content : (s : Shape) (c : Content) → (after_all nothing_read (content_lines s c)).changes ≡ content_changes s c
spelled_content s c =
    spelled_changes nothing_read (content_lines s c) ∙ changes-append (head_lines s c.pinned) (flat_map pass_lines c.passes)
    ∙ ap (λ cs. cs ++ lines_changes (flat_map pass_lines c.passes)) (head_changes s c.pinned (range_with_len 0 c.pinned))
    ∙ ap (λ cs. pinned_changes s c.pinned ++ cs) (all_pass_changes c.passes)

-- the journal of a lawful content has its changes in turn
pub lawful_in_turn : (s : Shape) (height : ℕ) (c : Content) → IsLawfulJournal s height c → AreInTurn (content_changes s c)
lawful_in_turn s height c lawful = subst AreInTurn (spelled_content s c) (lines_in_turn s height nothing_read (content_lines s c) lawful.admitted in_turn-none)

-- a content with one pass more
abbrev pub with_pass : Content → Pass → Content
with_pass c p = record { pinned = c.pinned; passes = c.passes ++ p ∷ [] }

lines_more : (s : Shape) (c : Content) (p : Pass) → content_lines s c ++ pass_lines p ≡ content_lines s (with_pass c p)
lines_more s c p =
    append_assoc (head_lines s c.pinned) (flat_map pass_lines c.passes) (pass_lines p)
    ∙ ap (λ ls. head_lines s c.pinned ++ ls) (ap (λ ls. flat_map pass_lines c.passes ++ ls) (sym (append-nil (pass_lines p)))
    ∙ sym (flat_map-append pass_lines c.passes (p ∷ [])))

pub lawful_more : (s : Shape) (height : ℕ) (c : Content) (p : Pass) → IsLawfulJournal s height c
    → AreAdmitted s height (after_all nothing_read (content_lines s c)) (pass_lines p)
    → IsComplete s height (after_all (after_all nothing_read (content_lines s c)) (pass_lines p)) → IsLawfulJournal s height (with_pass c p)
lawful_more s height c p lawful admitted complete = record {
  admitted = subst (AreAdmitted s height nothing_read) (lines_more s c p)
      (admitted-append s height nothing_read (content_lines s c) (pass_lines p) lawful.admitted admitted);
  complete = subst (λ ls. IsComplete s height (after_all nothing_read ls)) (lines_more s c p)
      (subst (IsComplete s height) (sym (after_all-append nothing_read (content_lines s c) (pass_lines p))) complete);
}
