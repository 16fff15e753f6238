-- The lines of events, one event more.
use Rattle.std.proofs.Common.{◌≡◌, ℕ, suc, ◌+◌, ◌<◌, ◌≤◌, List, [], ◌∷◌, ◌++◌, length, map, take, get_or, refl, sym, ap, ◌∙◌, arith, append_assoc, length-append}
use Rattle.std.specs.List.{range_with_len}
use Rattle.std.proofs.lemmas.List.{append-nil, flat_map_more, map_more}
use Rattle.std.proofs.lemmas.List.Concat.{flat_map-append}
use Rattle.std.proofs.lemmas.List.FromFn.{map-range_with_len_more}
use Rattle.vt_pages.specs.Shape.{Shape}
use Rattle.vt_journal.specs.declared.changes.Event.{Event}
use Rattle.vt_journal.specs.declared.changes.Event.TheVariants.{Changed, Lost}
use Rattle.vt_journal.specs.declared.changes.RowLine.{RowLine}
use Rattle.vt_journal.specs.declared.lines.Line.{Line}
use Rattle.vt_journal.specs.declared.lines.Line.TheVariants.{Begins, Makes, Loses, Draws}
use Rattle.vt_journal.specs.JournalText.{Pass, changes_of, event_lines, line_text, lines_text, pass_text, pinned_change}

pub changes_of-append : (es fs : List Event) → changes_of (es ++ fs) ≡ changes_of es ++ changes_of fs
changes_of-append [] fs = refl
changes_of-append (Changed c ∷ es) fs = ap (λ cs. c ∷ cs) (changes_of-append es fs)
changes_of-append (Lost p ∷ es) fs = changes_of-append es fs

pub length-changes_of : (es : List Event) → length (changes_of es) ≤ length es
length-changes_of [] = omega arith
length-changes_of (Changed c ∷ es) = omega (arith, length-changes_of es)
length-changes_of (Lost p ∷ es) = omega (arith, length-changes_of es)

pub event_lines-append : (v : ℕ) (es fs : List Event)
    → event_lines v (es ++ fs) ≡ event_lines v es ++ event_lines (v + length (changes_of es)) fs
event_lines-append v [] fs = let e : v ≡ v + 0 = omega arith in ap (λ n. event_lines n fs) e
event_lines-append v (Changed c ∷ es) fs =
    let e : v + 1 + length (changes_of es) ≡ v + suc (length (changes_of es)) = omega arith in
    ap (λ ls. Makes (v + 1) c ∷ ls) (event_lines-append (v + 1) es fs ∙ ap (λ n. event_lines (v + 1) es ++ event_lines n fs) e)
event_lines-append v (Lost p ∷ es) fs = ap (λ ls. Loses p ∷ ls) (event_lines-append v es fs)

-- one event more
pub version_more : (v w : ℕ) (es : List Event) (e : Event) → w ≡ v + length (changes_of es)
    → w + length (changes_of (e ∷ [])) ≡ v + length (changes_of (es ++ e ∷ []))
version_more v w es e is = omega (arith, is, ap length (changes_of-append es (e ∷ [])), length-append (changes_of es) (changes_of (e ∷ [])))

pub lines_text-append : (s : Shape) (ls ms : List Line) → lines_text s (ls ++ ms) ≡ lines_text s ls ++ lines_text s ms
lines_text-append s ls ms = flat_map-append (line_text s) ls ms

pub text_more : (s : Shape) (start : List ℕ) (v w : ℕ) (es : List Event) (e : Event) → w ≡ v + length (changes_of es)
    → (start ++ lines_text s (event_lines v es)) ++ lines_text s (event_lines w (e ∷ [])) ≡ start ++ lines_text s (event_lines v (es ++ e ∷ []))
text_more s start v w es e is =
    append_assoc start (lines_text s (event_lines v es)) (lines_text s (event_lines w (e ∷ [])))
    ∙ ap (λ t. start ++ t) (
    ap (λ n. lines_text s (event_lines v es) ++ lines_text s (event_lines n (e ∷ []))) is
    ∙ sym (lines_text-append s (event_lines v es) (event_lines (v + length (changes_of es)) (e ∷ [])))
    ∙ ap (lines_text s) (sym (event_lines-append v es (e ∷ [])))
    )

-- one pinned page more
pub head_more : (s : Shape) (pinned place : ℕ)
    → lines_text s (map (λ i. Makes (i + 1) (pinned_change s pinned i)) (range_with_len 0 place))
    ++ line_text s (Makes (place + 1) (pinned_change s pinned place))
    ≡ lines_text s (map (λ i. Makes (i + 1) (pinned_change s pinned i)) (range_with_len 0 (place + 1)))
head_more s pinned place =
    let f : ℕ → Line = λ i. Makes (i + 1) (pinned_change s pinned i) in
    ap (λ t. lines_text s (map f (range_with_len 0 place)) ++ t) (sym (append-nil (line_text s (f place))))
    ∙ sym (lines_text-append s (map f (range_with_len 0 place)) (f place ∷ []))
    ∙ ap (lines_text s) (sym (map-range_with_len_more f 0 place place (omega arith)))

-- one row more
pub rows_more : (s : Shape) (old before after : List ℕ) (rows : List RowLine) (i : ℕ) (d : RowLine) → i < length rows
    → before ≡ old ++ lines_text s (map Draws (take i rows)) → after ≡ before ++ line_text s (Draws (get_or rows i d))
    → after ≡ old ++ lines_text s (map Draws (take (i + 1) rows))
rows_more s old before after rows i d within was next =
    next ∙ ap (λ t. t ++ line_text s (Draws (get_or rows i d))) was
    ∙ flat_map_more (line_text s) old (map Draws (take i rows)) (Draws (get_or rows i d))
    ∙ ap (λ (ls : List Line). old ++ lines_text s ls) (sym (map_more Draws rows i d within))

-- the lines of a pass, after their three parts
pub pass_whole : (s : Shape) (old one two three : List ℕ) (pass : Pass) → one ≡ old ++ line_text s (Begins pass.pass pass.picture pass.start)
    → two ≡ one ++ lines_text s (event_lines pass.start pass.events) → three ≡ two ++ lines_text s (map Draws pass.rows)
    → three ≡ old ++ pass_text s pass
pass_whole s old one two three pass begun spelled drawn =
    let begins = line_text s (Begins pass.pass pass.picture pass.start) in
    let events = lines_text s (event_lines pass.start pass.events) in
    let rows = lines_text s (map Draws pass.rows) in
    drawn ∙ ap (λ t. t ++ rows) (spelled ∙ ap (λ t. t ++ events) begun) ∙ append_assoc (old ++ begins) events rows
    ∙ append_assoc old begins (events ++ rows)
    ∙ ap (λ t. old ++ (begins ++ t)) (sym (lines_text-append s (event_lines pass.start pass.events) (map Draws pass.rows)))
