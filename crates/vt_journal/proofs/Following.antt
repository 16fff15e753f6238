-- A pass that may come next, by its parts and by its lines.
use Rattle.std.proofs.Common.{◌≡◌, ℕ, ◌+◌, ◌<◌, ◌≤◌, inr, List, [], ◌∷◌, ◌++◌, length, map, refl, sym, ap, ◌∙◌, subst, arith, append_assoc, length-append, Some, slice_get}
use Rattle.std.proofs.lemmas.Option.{slice_get_within}
use Rattle.vt_pages.specs.Shape.{Shape}
use Rattle.vt_journal.specs.declared.changes.Change.{Change}
use Rattle.vt_journal.specs.declared.changes.Change.TheVariants.{Map, Unmap}
use Rattle.vt_journal.specs.declared.changes.Event.{Event}
use Rattle.vt_journal.specs.declared.changes.Event.TheVariants.{Changed, Lost}
use Rattle.vt_journal.specs.declared.changes.RowLine.{RowLine}
use Rattle.vt_journal.specs.declared.lines.Line.TheVariants.{Begins, Draws}
use Rattle.vt_journal.specs.JournalText.{Pass, changes_of, event_lines, pass_lines}
use Rattle.vt_journal.specs.JournalFlaws.{Reading, after, AreAdmitted, after_all, IsComplete, pinned_by}
use Rattle.vt_journal.specs.Following.{AreEventsAfter, AreRowsOf, IsPassAfter}
use Rattle.vt_journal.proofs.Versions.{slice_get-front, slice_get-seam}
use Rattle.vt_journal.proofs.Stepping.{admitted-append, after_all-append}
use Rattle.vt_journal.proofs.Events.{after_events, pinned_stays}
use Rattle.vt_journal.proofs.Rows.{after_rows}

abbrev made : List Change → ℕ → ℕ → ℕ → List RowLine → Reading
made changes passes picture start rows = record { changes = changes; passes = passes; picture = picture; start = start; rows = rows }

-- events that may come after one another are lines that may
events_admitted : (s : Shape) (height pinned passes picture start : ℕ) (changes : List Change) (es : List Event) → 1 ≤ passes
    → pinned_by s changes ≡ pinned → 1 ≤ length changes → AreEventsAfter s pinned changes es
    → AreAdmitted s height (made changes passes picture start []) (event_lines (length changes) es)
events_admitted s height pinned passes picture start changes [] some_pass by some all = tt
events_admitted s height pinned passes picture start changes (Changed (Map p f) ∷ es) some_pass by some all =
    let count : length (changes ++ Map p f ∷ []) ≡ length changes + 1 = length-append changes (Map p f ∷ []) in
    let more : 1 ≤ length (changes ++ Map p f ∷ []) = omega (arith, count) in
    let rest = events_admitted s height pinned passes picture start (changes ++ Map p f ∷ []) es some_pass (pinned_stays s changes (Map p f ∷ []) some
    ∙ by) more all.2 in (
      (refl, (all.0.0, all.0.1, inr (some_pass, refl)), all.1),
      subst
          (λ v. AreAdmitted s height (made (changes ++ Map p f ∷ []) passes picture start []) (event_lines v es)) count rest,
    )
events_admitted s height pinned passes picture start changes (Changed (Unmap p f) ∷ es) some_pass by some all =
    let count : length (changes ++ Unmap p f ∷ []) ≡ length changes + 1 = length-append changes (Unmap p f ∷ []) in
    let more : 1 ≤ length (changes ++ Unmap p f ∷ []) = omega (arith, count) in
    let rest = events_admitted s height pinned passes picture start (changes
    ++ Unmap p f ∷ []) es some_pass (pinned_stays s changes (Unmap p f ∷ []) some ∙ by) more all.2 in (
      (refl, (omega (arith, all.0.0), all.0.1, omega (arith, all.0.0, by), (some_pass, refl)), all.1),
      subst (λ v. AreAdmitted s height (made (changes ++ Unmap p f ∷ []) passes picture start []) (event_lines v es)) count rest,
    )
events_admitted s height pinned passes picture start changes (Lost p ∷ es) some_pass by some all =
    (((some_pass, refl), all.0, all.1), events_admitted s height pinned passes picture start changes es some_pass by some all.2)

-- rows that may come after one another are lines that may
rows_admitted : (s : Shape) (height passes picture start : ℕ) (changes : List Change) (before rest whole : List RowLine)
    → 1 ≤ passes → whole ≡ before ++ rest → AreRowsOf height start (length changes) whole
    → AreAdmitted s height (made changes passes picture start before) (map Draws rest)
rows_admitted s height passes picture start changes before [] whole some_pass is all = tt
rows_admitted s height passes picture start changes before (row ∷ rest) whole some_pass is all =
    let here : slice_get whole (length before) ≡ Some row = ap (λ rs. slice_get rs (length before)) is ∙ slice_get-seam before row rest in
    let one = all.each (length before) row here in
    let within = slice_get_within whole (length before) row here in
    let moved : whole ≡ (before ++ row ∷ []) ++ rest = is ∙ sym (append_assoc before (row ∷ []) rest) in (
      record {
        in_pass = some_pass;
        next = one.place;
        inside = omega (arith, one.place, within, all.count);
        sampler = one.sampler;
        from = one.from;
        to = one.to;
        rises = λ k q at same.
            let low : k < length before = slice_get_within before k q at in
            let at_whole : slice_get whole k ≡ Some q = ap (λ rs. slice_get rs k) is ∙ slice_get-front before (row ∷ rest) k low ∙ at in
            all.rise k (length before) q row low at_whole here same;
      },
      rows_admitted s height passes picture start changes (before ++ row ∷ []) rest whole some_pass moved all,
    )

-- what a pass tells
pub spelled_by_pass : (r : Reading) (p : Pass)
    → after_all r (pass_lines p) ≡ made (r.changes ++ changes_of p.events) p.pass p.picture p.start p.rows
spelled_by_pass r p =
    let b = after r (Begins p.pass p.picture p.start) in
    after_all-append b (event_lines p.start p.events) (map Draws p.rows)
    ∙ ap (λ (x : Reading). after_all x (map Draws p.rows)) (after_events b p.start p.events)
    ∙ after_rows (made (r.changes ++ changes_of p.events) p.pass p.picture p.start []) p.rows

-- a pass that may come next, by its lines
pub pass_admitted : (s : Shape) (height pinned : ℕ) (r : Reading) (p : Pass) → IsComplete s height r
    → pinned_by s r.changes ≡ pinned → 1 ≤ length r.changes → IsPassAfter s height pinned r.changes r.passes r.picture p
    → AreAdmitted s height r (pass_lines p)
pass_admitted s height pinned r p whole by some next =
    let b = after r (Begins p.pass p.picture p.start) in
    let some_pass : 1 ≤ p.pass = omega (arith, next.pass_is) in
    let events : AreAdmitted s height b (event_lines p.start p.events) =
    subst (λ v. AreAdmitted s height b (event_lines v p.events)) (sym next.start_is)
    (events_admitted s height pinned p.pass p.picture p.start r.changes p.events some_pass by some next.events) in
    let last : length (r.changes ++ changes_of p.events) ≡ length r.changes + length (changes_of p.events) = length-append r.changes (changes_of p.events) in
    let all : AreRowsOf height p.start (length (r.changes ++ changes_of p.events)) p.rows = subst (λ n. AreRowsOf height p.start n p.rows) (sym last)
    next.rows in
    let rows : AreAdmitted s height (after_all b (event_lines p.start p.events)) (map Draws p.rows) =
    subst (λ (x : Reading). AreAdmitted s height x (map Draws p.rows)) (sym (after_events b p.start p.events))
    (rows_admitted s height p.pass p.picture p.start (r.changes ++ changes_of p.events) [] p.rows p.rows some_pass refl all) in
    ((whole, next.pass_is, next.picture_is, next.start_is), admitted-append s height b (event_lines p.start p.events) (map Draws p.rows) events rows)

pub pass_complete : (s : Shape) (height pinned : ℕ) (r : Reading) (p : Pass)
    → IsPassAfter s height pinned r.changes r.passes r.picture p → IsComplete s height (after_all r (pass_lines p))
pass_complete s height pinned r p next =
    subst (IsComplete s height) (sym (spelled_by_pass r p)) (record { head = λ none. absurd (omega (arith, next.pass_is, none)); rows = λ some. next.rows.count })
