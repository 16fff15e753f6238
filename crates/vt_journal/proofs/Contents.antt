-- A content and its lines.
use Rattle.std.proofs.Common.{◌≡◌, ℕ, ◌+◌, ◌≤◌, List, [], ◌∷◌, ◌++◌, length, map, refl, sym, ap, ◌∙◌, subst, append_assoc}
use Rattle.std.specs.List.{flat_map, range_with_len}
use Rattle.std.proofs.lemmas.List.{append_cancel_right}
use Rattle.std.proofs.lemmas.List.FromFn.{length-map-range_with_len}
use Rattle.vt_text.specs.Lines.{fields_of, lines_of}
use Rattle.vt_pages.specs.Shape.{Shape}
use Rattle.vt_journal.specs.declared.changes.Event.{Event}
use Rattle.vt_journal.specs.declared.changes.Event.TheVariants.{Changed, Lost}
use Rattle.vt_journal.specs.declared.changes.RowLine.{RowLine}
use Rattle.vt_journal.specs.declared.lines.Line.{Line}
use Rattle.vt_journal.specs.declared.lines.Line.TheVariants.{Begins, Makes, Loses, Draws}
use Rattle.vt_journal.specs.declared.parse.JournalError.{JournalError}
use Rattle.vt_journal.specs.JournalText.{Pass, Content, event_lines, pass_lines, head_lines, content_lines, lines_text, head_text, pass_text, journal_text, pinned_change, IsLineInChain}
use Rattle.vt_journal.specs.JournalFlaws.{Reading, nothing_read, after, AreAdmitted, IsJournalFlawFrom, IsLawfulJournal, IsJournalFlaw}
use Rattle.vt_journal.specs.JournalReading.{line_bytes}
use Rattle.vt_journal.proofs.SpelledLines.{fields_of-line, lines_of-text}
use Rattle.vt_journal.proofs.EventLines.{lines_text-append}
use Rattle.vt_journal.proofs.Stepping.{line_injective, admitted_in_chain, no_flaw, flaw_unique}

-- what lines say, read from their end: events before a pass, rows before a pass, and passes
record Split : Type 0 where
  events : List Event
  rows : List RowLine
  passes : List Pass

split : List Line → Split
split [] = record { events = []; rows = []; passes = [] }
split (Begins n k v ∷ ls) =
    let rest = split ls in
    record { events = []; rows = []; passes = record { pass = n; picture = k; start = v; events = rest.events; rows = rest.rows } ∷ rest.passes }
split (Makes v c ∷ ls) = let rest = split ls in record { events = Changed c ∷ rest.events; rows = rest.rows; passes = rest.passes }
split (Loses p ∷ ls) = let rest = split ls in record { events = Lost p ∷ rest.events; rows = rest.rows; passes = rest.passes }
split (Draws row ∷ ls) = let rest = split ls in record { events = rest.events; rows = row ∷ rest.rows; passes = rest.passes }

abbrev parts : List Event → List RowLine → List Pass → Split
parts events rows passes = record { events = events; rows = rows; passes = passes }

split_rows : (rows : List RowLine) (ls : List Line) (ps : List Pass) → split ls ≡ parts [] [] ps
    → split (map Draws rows ++ ls) ≡ parts [] rows ps
unfolding split
split_rows [] ls ps e = e
split_rows (row ∷ rows) ls ps e =
    let rest = split_rows rows ls ps e in
    ap (λ (x : Split). parts x.events (row ∷ x.rows) x.passes) rest

split_events : (v : ℕ) (es : List Event) (ls : List Line) (rows : List RowLine) (ps : List Pass) → split ls ≡ parts [] rows ps
    → split (event_lines v es ++ ls) ≡ parts es rows ps
unfolding split
split_events v [] ls rows ps e = e
split_events v (Changed c ∷ es) ls rows ps e = ap (λ (x : Split). parts (Changed c ∷ x.events) x.rows x.passes) (split_events (v + 1) es ls rows ps e)
split_events v (Lost p ∷ es) ls rows ps e = ap (λ (x : Split). parts (Lost p ∷ x.events) x.rows x.passes) (split_events v es ls rows ps e)

split_passes : (ps : List Pass) → split (flat_map pass_lines ps) ≡ parts [] [] ps
unfolding split
split_passes [] = refl
split_passes (p ∷ ps) =
    let rows = split_rows p.rows (flat_map pass_lines ps) ps (split_passes ps) in
    let events = split_events p.start p.events (map Draws p.rows ++ flat_map pass_lines ps) p.rows ps rows in
    let all : split (event_lines p.start p.events ++ map Draws p.rows ++ flat_map pass_lines ps) ≡ parts p.events p.rows ps =
    ap split (append_assoc (event_lines p.start p.events) (map Draws p.rows) (flat_map pass_lines ps)) ∙ events in
    ap (λ (x : Split). parts [] [] (record { pass = p.pass; picture = p.picture; start = p.start; events = x.events; rows = x.rows } ∷ x.passes)) all

-- the lines of the head have as many events

split_head : (s : Shape) (pinned : ℕ) (places : List ℕ) (ls : List Line) (ps : List Pass) → split ls ≡ parts [] [] ps
    → split (map (λ i. Makes (i + 1) (pinned_change s pinned i)) places ++ ls) ≡ parts (map (λ i. Changed (pinned_change s pinned i)) places) [] ps
unfolding split
split_head s pinned [] ls ps e = e
split_head s pinned (i ∷ places) ls ps e = ap (λ (x : Split). parts (Changed (pinned_change s pinned i) ∷ x.events) x.rows x.passes)
    (split_head s pinned places ls ps e)

split_content : (s : Shape) (c : Content)
    → split (content_lines s c) ≡ parts (map (λ i. Changed (pinned_change s c.pinned i)) (range_with_len 0 c.pinned)) [] c.passes
split_content s c = split_head s c.pinned (range_with_len 0 c.pinned) (flat_map pass_lines c.passes) c.passes (split_passes c.passes)

-- the lines of a content tell the content
pub content_by_lines : (s : Shape) (c d : Content) → content_lines s c ≡ content_lines s d → c ≡ d
content_by_lines s c d e =
    let same = sym (split_content s c) ∙ ap split e ∙ split_content s d in
    let passes : c.passes ≡ d.passes = ap (λ (x : Split). x.passes) same in
    let counts = ap (λ (x : Split). length x.events) same in
    let count_c = length-map-range_with_len (λ i. Changed (pinned_change s c.pinned i)) 0 c.pinned in
    let count_d = length-map-range_with_len (λ i. Changed (pinned_change s d.pinned i)) 0 d.pinned in
    let pinned : c.pinned ≡ d.pinned = sym count_c ∙ counts ∙ count_d in
    let made : ℕ → List Pass → Content = λ n ps. record { pinned = n; passes = ps } in
    ap (λ n. made n c.passes) pinned ∙ ap (λ ps. made d.pinned ps) passes

-- the pages that lines name are in the chain
abbrev AreInChain : Shape → List Line → Type 0
AreInChain s [] = Unit {0}
AreInChain s (l ∷ ls) = IsLineInChain s l × AreInChain s ls

admitted_are_in_chain : (s : Shape) (height : ℕ) (r : Reading) (ls : List Line) → AreAdmitted s height r ls → AreInChain s ls
admitted_are_in_chain s height r [] a = tt
admitted_are_in_chain s height r (l ∷ ls) a = (admitted_in_chain s height r l a.0, admitted_are_in_chain s height (after r l) ls a.1)

-- lines that are spelled alike are alike
lines_by_bytes : (s : Shape) (ls ms : List Line) → 1 ≤ s.tile → AreInChain s ls → AreInChain s ms
    → map (line_bytes s) ls ≡ map (line_bytes s) ms → ls ≡ ms
lines_by_bytes s [] [] tile a b e = refl
lines_by_bytes s [] (m ∷ ms) tile a b e = cc
lines_by_bytes s (l ∷ ls) [] tile a b e = cc
lines_by_bytes s (l ∷ ls) (m ∷ ms) tile a b e =
    let heads : line_bytes s l ≡ line_bytes s m = cc in
    let tails : map (line_bytes s) ls ≡ map (line_bytes s) ms = cc in
    let same_head : l ≡ m = line_injective s l m tile a.0 b.0 (sym (fields_of-line s l) ∙ ap fields_of heads ∙ fields_of-line s m) in
    let same_tail : ls ≡ ms = lines_by_bytes s ls ms tile a.1 b.1 tails in
    ap (λ x. x ∷ ls) same_head ∙ ap (λ xs. m ∷ xs) same_tail

lines_by_text : (s : Shape) (ls ms : List Line) → 1 ≤ s.tile → AreInChain s ls → AreInChain s ms
    → lines_text s ls ≡ lines_text s ms → ls ≡ ms
lines_by_text s ls ms tile a b e =
    lines_by_bytes s ls ms tile a b (append_cancel_right (map (line_bytes s) ls) (map (line_bytes s) ms) ([] ∷ []) (sym (lines_of-text s ls)
    ∙ ap lines_of e ∙ lines_of-text s ms))

-- the text of a content is that of its lines
passes_text : (s : Shape) (ps : List Pass) → flat_map (pass_text s) ps ≡ lines_text s (flat_map pass_lines ps)
passes_text s [] = refl
passes_text s (p ∷ ps) =
    ap (λ t. pass_text s p ++ t) (passes_text s ps) ∙ sym (lines_text-append s (pass_lines p) (flat_map pass_lines ps))

pub text_of_content : (s : Shape) (c : Content) → journal_text s c ≡ lines_text s (content_lines s c)
text_of_content s c =
    ap (λ t. head_text s c.pinned ++ t) (passes_text s c.passes)
    ∙ sym (lines_text-append s (head_lines s c.pinned) (flat_map pass_lines c.passes))

-- one text is that of one content
pub content_unique : (s : Shape) (height : ℕ) (c d : Content) → 1 ≤ s.tile → IsLawfulJournal s height c → IsLawfulJournal s height d
    → journal_text s c ≡ journal_text s d → c ≡ d
content_unique s height c d tile a b e =
    content_by_lines s c d (lines_by_text s (content_lines s c) (content_lines s d) tile
    (admitted_are_in_chain s height nothing_read (content_lines s c) a.admitted) (admitted_are_in_chain s height nothing_read (content_lines s d) b.admitted)
    (sym (text_of_content s c) ∙ e ∙ text_of_content s d))

pub lines_of_content : (s : Shape) (text : List ℕ) (c : Content) → text ≡ journal_text s c
    → lines_of text ≡ map (line_bytes s) (content_lines s c) ++ ([] ∷ [])
lines_of_content s text c e = ap lines_of (e ∙ text_of_content s c) ∙ lines_of-text s (content_lines s c)

-- the text of a lawful content has no flaw
pub lawful_has_no_flaw : (s : Shape) (height : ℕ) (text : List ℕ) (c : Content) (e : JournalError) → 1 ≤ s.tile
    → IsLawfulJournal s height c → text ≡ journal_text s c → IsJournalFlaw s height text e → ⊥
lawful_has_no_flaw s height text c e tile lawful same flaw =
    no_flaw s height 1 nothing_read (content_lines s c) e tile lawful.admitted lawful.complete
    (subst (λ ls. IsJournalFlawFrom s height 1 nothing_read ls e) (lines_of_content s text c same) flaw)

pub journal_flaw_unique : (s : Shape) (height : ℕ) (text : List ℕ) (e f : JournalError) → 1 ≤ s.tile
    → IsJournalFlaw s height text e → IsJournalFlaw s height text f → e ≡ f
journal_flaw_unique s height text e f tile a b = flaw_unique s height 1 nothing_read (lines_of text) e f tile a b
