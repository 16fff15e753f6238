-- What is true of a pass whose lines may come next.
use Rattle.std.proofs.Common.{◌≡◌, ℕ, ◌+◌, ◌<◌, ◌≤◌, inl, inr, List, [], ◌∷◌, ◌++◌, length, map, sym, ap, ◌∙◌, subst, arith, append_assoc, length-append, Some, slice_get}
use Rattle.std.proofs.lemmas.List.{append-nil}
use Rattle.vt_pages.specs.Shape.{Shape}
use Rattle.vt_pages.specs.Pages.{pages_of}
use Rattle.vt_journal.specs.declared.changes.Change.{Change}
use Rattle.vt_journal.specs.declared.changes.Change.TheVariants.{Map, Unmap}
use Rattle.vt_journal.specs.declared.changes.Event.{Event}
use Rattle.vt_journal.specs.declared.changes.Event.TheVariants.{Changed, Lost}
use Rattle.vt_journal.specs.declared.changes.RowLine.{RowLine}
use Rattle.vt_journal.specs.declared.lines.Line.TheVariants.{Begins, Draws}
use Rattle.vt_journal.specs.JournalText.{Pass, changes_of, event_lines, pass_lines}
use Rattle.vt_journal.specs.JournalFlaws.{Reading, Admits, after, AreAdmitted, after_all, IsComplete, pinned_by}
use Rattle.vt_journal.specs.Following.{AreEventsAfter, IsRowOf, IsPassAfter}
use Rattle.vt_journal.proofs.Versions.{slice_get-front, slice_get-push}
use Rattle.vt_journal.proofs.Stepping.{admitted-parts}
use Rattle.vt_journal.proofs.Events.{after_events, pinned_stays}
use Rattle.vt_journal.proofs.Following.{spelled_by_pass}

abbrev made : List Change → ℕ → ℕ → ℕ → List RowLine → Reading
made changes passes picture start rows = record { changes = changes; passes = passes; picture = picture; start = start; rows = rows }

-- events whose lines may come one after another
events_after : (s : Shape) (height pinned passes picture start v : ℕ) (changes : List Change) (es : List Event)
    → pinned_by s changes ≡ pinned → 1 ≤ length changes
    → AreAdmitted s height (made changes passes picture start []) (event_lines v es) → AreEventsAfter s pinned changes es
events_after s height pinned passes picture start v changes [] by some all = tt
events_after s height pinned passes picture start v changes (Changed (Map p f) ∷ es) by some all =
    let more : 1 ≤ length (changes ++ Map p f ∷ []) = omega (arith, length-append changes (Map p f ∷ [])) in (
      (all.0.1.0, all.0.1.1),
      all.0.2,
      events_after s height pinned passes picture start (v + 1) (changes
          ++ Map p f ∷ []) es (pinned_stays s changes (Map p f ∷ []) some ∙ by) more all.1,
    )
events_after s height pinned passes picture start v changes (Changed (Unmap p f) ∷ es) by some all =
    let more : 1 ≤ length (changes ++ Unmap p f ∷ []) = omega (arith, length-append changes (Unmap p f ∷ [])) in
    let kept : p + pinned < pages_of s = omega (arith, all.0.1.2, by) in (
      (kept, all.0.1.1),
      all.0.2,
      events_after s height pinned passes picture start (v + 1) (changes
          ++ Unmap p f ∷ []) es (pinned_stays s changes (Unmap p f ∷ []) some ∙ by) more all.1,
    )
events_after s height pinned passes picture start v changes (Lost p ∷ es) by some all =
    (all.0.1, all.0.2, events_after s height pinned passes picture start v changes es by some all.1)

-- rows that were in order, and those whose lines may come after them
record AreBegun (start last : ℕ) (rows : List RowLine) : Type 0 where
  each : (y : ℕ) (row : RowLine) → slice_get rows y ≡ Some row → IsRowOf start last y row
  rise : (i j : ℕ) (q row : RowLine) → i < j → slice_get rows i ≡ Some q → slice_get rows j ≡ Some row → q.sampler ≡ row.sampler → q.version ≤ row.version

begun_more : (s : Shape) (height passes picture start : ℕ) (changes : List Change) (before : List RowLine) (row : RowLine)
    → AreBegun start (length changes) before → Admits s height (made changes passes picture start before) (Draws row)
    → AreBegun start (length changes) (before ++ row ∷ [])
begun_more s height passes picture start changes before row begun a = record {
  each = λ y r at. elim (slice_get-push before row y r at) [
    | inl (low, was) ↦ begun.each y r was
    | inr (last, same) ↦ subst (λ (x : RowLine). IsRowOf start (length changes) y x) same (record {
      place = a.next
          ∙ sym last;
      sampler = a.sampler;
      from = a.from;
      to = a.to;
    })
  ];
  rise = λ i j q r low at_i at_j same. elim (slice_get-push before row j r at_j) [
    | inl (low_j, was_j) ↦ begun.rise i j q r low (sym (slice_get-front before (row ∷ []) i (omega (arith, low, low_j))) ∙ at_i) was_j same
    | inr (last, is) ↦
        let was_i : slice_get before i ≡ Some q = sym (slice_get-front before (row ∷ []) i (omega (arith, low, last))) ∙ at_i in
        let rises : q.version ≤ row.version = a.rises i q was_i (same ∙ ap (λ (x : RowLine). x.sampler) (sym is)) in
        subst (λ (x : RowLine). q.version ≤ x.version) is rises
  ];
}

rows_of : (s : Shape) (height passes picture start : ℕ) (changes : List Change) (before rest : List RowLine)
    → AreBegun start (length changes) before → AreAdmitted s height (made changes passes picture start before) (map Draws rest)
    → AreBegun start (length changes) (before ++ rest)
rows_of s height passes picture start changes before [] begun all = subst (AreBegun start (length changes)) (sym (append-nil before)) begun
rows_of s height passes picture start changes before (row ∷ rest) begun all =
    subst (AreBegun start (length changes)) (append_assoc before (row ∷ []) rest)
    (rows_of s height passes picture start changes (before ++ row ∷ []) rest (begun_more s height passes picture start changes before row begun all.0) all.1)

none_begun : (start last : ℕ) → AreBegun start last []
none_begun start last = record { each = λ y row at. cc; rise = λ i j q row low at_i at_j same. cc }

pub pass_next : (s : Shape) (height pinned : ℕ) (r : Reading) (p : Pass) → AreAdmitted s height r (pass_lines p)
    → IsComplete s height (after_all r (pass_lines p)) → pinned_by s r.changes ≡ pinned → 1 ≤ length r.changes
    → IsPassAfter s height pinned r.changes r.passes r.picture p
pass_next s height pinned r p all whole by some =
    let b = after r (Begins p.pass p.picture p.start) in
    let parts = admitted-parts s height b (event_lines p.start p.events) (map Draws p.rows) all.1 in
    let last : length (r.changes ++ changes_of p.events) ≡ length r.changes + length (changes_of p.events) = length-append r.changes (changes_of p.events) in
    let drawn : AreAdmitted s height (made (r.changes ++ changes_of p.events) p.pass p.picture p.start []) (map Draws p.rows) =
    subst (λ (x : Reading). AreAdmitted s height x (map Draws p.rows)) (after_events b p.start p.events) parts.1 in
    let rows = rows_of s height p.pass p.picture p.start (r.changes
    ++ changes_of p.events) [] p.rows (none_begun p.start (length (r.changes ++ changes_of p.events))) drawn in
    let spelled : IsComplete s height (made (r.changes ++ changes_of p.events) p.pass p.picture p.start p.rows) = subst (IsComplete s height)
    (spelled_by_pass r p) whole in
    record {
      pass_is = all.0.1;
      picture_is = all.0.2;
      start_is = all.0.3;
      events = events_after s height pinned p.pass p.picture p.start p.start r.changes p.events by some parts.0;
      rows = record {
        count = spelled.rows (omega (arith, all.0.1));
        each = λ y row at. subst (λ n. IsRowOf p.start n y row) last (rows.each y row at);
        rise = rows.rise;
      };
    }
