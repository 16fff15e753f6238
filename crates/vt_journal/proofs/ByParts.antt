-- A lawful content by its parts: its head, and its passes one after another.
use Rattle.std.proofs.Common.{◌≡◌, ℕ, zero, suc, ◌+◌, ◌<◌, ◌≤◌, List, [], ◌∷◌, ◌++◌, length, refl, sym, ap, ◌∙◌, subst, arith, append_assoc, length-append, Some}
use Rattle.std.specs.List.{flat_map}
use Rattle.std.proofs.lemmas.List.{append-nil}
use Rattle.std.proofs.lemmas.List.FromFn.{map-range_with_len_more, get_or-map-range_with_len}
use Rattle.std.proofs.lemmas.Option.{slice_get_within, slice_get-get_or}
use Rattle.vt_pages.specs.Shape.{Shape}
use Rattle.vt_pages.specs.Pages.{pages_of}
use Rattle.vt_journal.specs.declared.changes.Change.{Change}
use Rattle.vt_journal.specs.declared.changes.Change.TheVariants.{Map, Unmap}
use Rattle.vt_journal.specs.declared.changes.Event.{Event}
use Rattle.vt_journal.specs.declared.changes.Event.TheVariants.{Changed, Lost}
use Rattle.vt_journal.specs.declared.changes.RowLine.{RowLine}
use Rattle.vt_journal.specs.declared.lines.Line.TheVariants.{Makes}
use Rattle.vt_journal.specs.Changes.{Pinned}
use Rattle.vt_journal.specs.JournalText.{Pass, Content, changes_of, passes_changes, pass_lines, head_lines, content_changes, pinned_change, pinned_changes}
use Rattle.vt_journal.specs.JournalFlaws.{Reading, nothing_read, AreAdmitted, after_all, IsComplete, IsLawfulJournal, pinned_by}
use Rattle.vt_journal.specs.JournalReading.{head_reading}
use Rattle.vt_journal.specs.Following.{AreEventsAfter, ArePassesAfter, IsLawfulByParts}
use Rattle.vt_journal.proofs.Versions.{pinned-more}
use Rattle.vt_journal.proofs.Stepping.{admitted-append, admitted-parts, after_all-append}
use Rattle.vt_journal.proofs.Events.{pinned_stays}
use Rattle.vt_journal.proofs.Heading.{lines_to, pinned_by_first}
use Rattle.vt_journal.proofs.Following.{spelled_by_pass, pass_admitted, pass_complete}
use Rattle.vt_journal.proofs.Heads.{spelled_by_head, head_complete, heads_admitted, count_to}
use Rattle.vt_journal.proofs.Reversing.{pass_next}

abbrev made : List Change → ℕ → ℕ → ℕ → List RowLine → Reading
made changes passes picture start rows = record { changes = changes; passes = passes; picture = picture; start = start; rows = rows }

more_changes : (js ks : List Change) → 1 ≤ length js → 1 ≤ length (js ++ ks)
more_changes js ks some = omega (arith, some, length-append js ks)

-- passes that follow one another are lines that may come, and leave none missing
passes_admitted : (s : Shape) (height pinned : ℕ) (r : Reading) (ps : List Pass) → IsComplete s height r
    → pinned_by s r.changes ≡ pinned → 1 ≤ length r.changes → ArePassesAfter s height pinned r.changes r.passes r.picture ps
    → AreAdmitted s height r (flat_map pass_lines ps) × IsComplete s height (after_all r (flat_map pass_lines ps))
passes_admitted s height pinned r [] whole by some all = (tt, whole)
passes_admitted s height pinned r (p ∷ ps) whole by some all =
    let next = made (r.changes ++ changes_of p.events) p.pass p.picture p.start p.rows in
    let here = pass_admitted s height pinned r p whole by some all.0 in
    let done : IsComplete s height next = subst (IsComplete s height) (spelled_by_pass r p) (pass_complete s height pinned r p all.0) in
    let follow : ArePassesAfter s height pinned (r.changes ++ changes_of p.events) p.pass p.picture ps = subst
    (λ n. ArePassesAfter s height pinned (r.changes ++ changes_of p.events) n p.picture ps) (sym all.0.pass_is) all.1 in
    let rest = passes_admitted s height pinned next ps done (pinned_stays s r.changes (changes_of p.events) some
    ∙ by) (more_changes r.changes (changes_of p.events) some) follow in (
      admitted-append s height r (pass_lines p) (flat_map pass_lines ps) here
          (subst (λ (x : Reading). AreAdmitted s height x (flat_map pass_lines ps)) (sym (spelled_by_pass r p)) rest.0),
      subst (IsComplete s height) (sym (after_all-append r (pass_lines p) (flat_map pass_lines ps)
          ∙ ap (λ (x : Reading). after_all x (flat_map pass_lines ps)) (spelled_by_pass r p))) rest.1,
    )

-- before a pass, or at the end, none is missing
complete_before : (s : Shape) (height : ℕ) (r : Reading) (ps : List Pass) → AreAdmitted s height r (flat_map pass_lines ps)
    → IsComplete s height (after_all r (flat_map pass_lines ps)) → IsComplete s height r
complete_before s height r [] all whole = whole
complete_before s height r (p ∷ ps) all whole = all.0.0

passes_follow : (s : Shape) (height pinned : ℕ) (r : Reading) (ps : List Pass) → pinned_by s r.changes ≡ pinned
    → 1 ≤ length r.changes → AreAdmitted s height r (flat_map pass_lines ps)
    → IsComplete s height (after_all r (flat_map pass_lines ps)) → ArePassesAfter s height pinned r.changes r.passes r.picture ps
passes_follow s height pinned r [] by some all whole = tt
passes_follow s height pinned r (p ∷ ps) by some all whole =
    let next = made (r.changes ++ changes_of p.events) p.pass p.picture p.start p.rows in
    let parts = admitted-parts s height r (pass_lines p) (flat_map pass_lines ps) all in
    let end : IsComplete s height (after_all (after_all r (pass_lines p)) (flat_map pass_lines ps)) = subst (IsComplete s height)
    (after_all-append r (pass_lines p) (flat_map pass_lines ps)) whole in
    let done = complete_before s height (after_all r (pass_lines p)) ps parts.1 end in
    let one = pass_next s height pinned r p parts.0 done by some in
    let rest = passes_follow s height pinned next ps (pinned_stays s r.changes (changes_of p.events) some
    ∙ by) (more_changes r.changes (changes_of p.events) some)
    (subst (λ (x : Reading). AreAdmitted s height x (flat_map pass_lines ps)) (spelled_by_pass r p) parts.1)
    (subst (λ (x : Reading). IsComplete s height (after_all x (flat_map pass_lines ps))) (spelled_by_pass r p) end) in
    (one, subst (λ n. ArePassesAfter s height pinned (r.changes ++ changes_of p.events) n p.picture ps) one.pass_is rest)

-- a content that is lawful by its parts
pub lawful_by_parts : (s : Shape) (height : ℕ) (c : Content) → IsLawfulByParts s height c → IsLawfulJournal s height c
lawful_by_parts s height c by =
    let r = head_reading (pinned_changes s c.pinned) in
    let first = pinned_by_first s c.pinned c.pinned by.head.some by.head.few in
    let some : 1 ≤ length (pinned_changes s c.pinned) = omega (arith, count_to s c.pinned c.pinned, by.head.some) in
    let rest = passes_admitted s height c.pinned r c.passes (head_complete s height c.pinned by.head) first some by.passes in
    record {
      admitted = admitted-append s height nothing_read (head_lines s c.pinned) (flat_map pass_lines c.passes)
          (heads_admitted s height c.pinned c.pinned by.head (omega arith))
          (subst (λ (x : Reading). AreAdmitted s height x (flat_map pass_lines c.passes)) (sym (spelled_by_head s c.pinned)) rest.0);
      complete = subst (IsComplete s height) (sym (after_all-append nothing_read (head_lines s c.pinned) (flat_map pass_lines c.passes)
          ∙ ap (λ (x : Reading). after_all x (flat_map pass_lines c.passes)) (spelled_by_head s c.pinned))) rest.1;
    }

-- each line of a head names a frame within its bound
framed : (s : Shape) (height pinned n : ℕ) → AreAdmitted s height nothing_read (lines_to s pinned n) → n ≤ 65535
framed s height pinned zero all = omega arith
framed s height pinned (suc n) all =
    let next : suc n ≡ n + 1 = omega arith in
    let grown : lines_to s pinned (suc n) ≡ lines_to s pinned n ++ Makes (n + 1) (pinned_change s pinned n) ∷ [] = ap (lines_to s pinned) next
    ∙ map-range_with_len_more (λ i. Makes (i + 1) (pinned_change s pinned i)) 0 n n (omega arith) in
    let parts = admitted-parts s height nothing_read (lines_to s pinned n) (Makes (n + 1) (pinned_change s pinned n) ∷ [])
    (subst (AreAdmitted s height nothing_read) grown all) in
    let below : n < 65535 = parts.1.0.1.1 in
    omega (arith, below)

pinned_by_most : (s : Shape) (js : List Change) → pinned_by s js ≤ pages_of s
pinned_by_most s [] = omega arith
pinned_by_most s (j ∷ js) = omega arith

pub parts_of_lawful : (s : Shape) (height : ℕ) (c : Content) → IsLawfulJournal s height c → IsLawfulByParts s height c
parts_of_lawful s height c lawful =
    let js = pinned_changes s c.pinned in
    let r = head_reading js in
    let parts = admitted-parts s height nothing_read (head_lines s c.pinned) (flat_map pass_lines c.passes) lawful.admitted in
    let all : AreAdmitted s height r (flat_map pass_lines c.passes) = subst (λ (x : Reading). AreAdmitted s height x (flat_map pass_lines c.passes))
    (spelled_by_head s c.pinned) parts.1 in
    let end : IsComplete s height (after_all r (flat_map pass_lines c.passes)) =
    subst (IsComplete s height) (after_all-append nothing_read (head_lines s c.pinned) (flat_map pass_lines c.passes)
    ∙ ap (λ (x : Reading). after_all x (flat_map pass_lines c.passes)) (spelled_by_head s c.pinned)) lawful.complete in
    let whole = complete_before s height r c.passes all end in
    let count = count_to s c.pinned c.pinned in
    let some : 1 ≤ length js = (whole.head refl).0 in
    let by : pinned_by s js ≡ c.pinned = sym (whole.head refl).1 ∙ count in
    record {
      head = record { some = omega (arith, some, count); few = omega (arith, by, pinned_by_most s js); framed = framed s height c.pinned c.pinned parts.0 };
      passes = passes_follow s height c.pinned r c.passes by some all end;
    }

-- the pinned pages of such a content are pinned
events_pinned : (s : Shape) (pinned : ℕ) (changes : List Change) (es : List Event) → Pinned s changes pinned
    → pinned ≤ length changes → AreEventsAfter s pinned changes es → Pinned s (changes ++ changes_of es) pinned
events_pinned s pinned changes [] pin some all = subst (λ (js : List Change). Pinned s js pinned) (sym (append-nil changes)) pin
events_pinned s pinned changes (Changed (Map p f) ∷ es) pin some all =
    let grown = pinned-more s changes (Map p f) pinned pin some (λ q g e. cc) in
    subst (λ (js : List Change). Pinned s js pinned) (append_assoc changes (Map p f ∷ []) (changes_of es))
    (events_pinned s pinned (changes ++ Map p f ∷ []) es grown (omega (arith, some, length-append changes (Map p f ∷ []))) all.2)
events_pinned s pinned changes (Changed (Unmap p f) ∷ es) pin some all =
    let keeps = λ (q g : ℕ) (e : Unmap p f ≡ Unmap q g). let same : p ≡ q = cc in let below : q + pinned < pages_of s = omega (arith, all.0.0, same) in below in
    let grown = pinned-more s changes (Unmap p f) pinned pin some keeps in
    subst (λ (js : List Change). Pinned s js pinned) (append_assoc changes (Unmap p f ∷ []) (changes_of es))
    (events_pinned s pinned (changes ++ Unmap p f ∷ []) es grown (omega (arith, some, length-append changes (Unmap p f ∷ []))) all.2)
events_pinned s pinned changes (Lost p ∷ es) pin some all = events_pinned s pinned changes es pin some all.2

passes_pinned : (s : Shape) (height pinned passes before : ℕ) (changes : List Change) (ps : List Pass) → Pinned s changes pinned
    → pinned ≤ length changes → ArePassesAfter s height pinned changes passes before ps
    → Pinned s (changes ++ passes_changes ps) pinned
passes_pinned s height pinned passes before changes [] pin some all = subst (λ (js : List Change). Pinned s js pinned) (sym (append-nil changes)) pin
passes_pinned s height pinned passes before changes (p ∷ ps) pin some all =
    let grown = events_pinned s pinned changes p.events pin some all.0.events in
    subst (λ (js : List Change). Pinned s js pinned) (append_assoc changes (changes_of p.events) (passes_changes ps))
    (passes_pinned s height pinned (passes + 1) p.picture (changes
    ++ changes_of p.events) ps grown (omega (arith, some, length-append changes (changes_of p.events))) all.1)

pub content_pinned : (s : Shape) (height : ℕ) (c : Content) → IsLawfulByParts s height c → Pinned s (content_changes s c) c.pinned
content_pinned s height c by =
    let js = pinned_changes s c.pinned in
    let count = count_to s c.pinned c.pinned in
    let head : Pinned s js c.pinned = record {
      few = by.head.few;
      first = λ i small. slice_get-get_or js i (Map 0 0) (omega (arith, count, small))
          ∙ ap Some (get_or-map-range_with_len (pinned_change s c.pinned) 0 c.pinned i i (Map 0 0) small (omega arith));
      kept = λ v p f high at. absurd (omega (arith, slice_get_within js v (Unmap p f) at, count, high));
    } in
    passes_pinned s height c.pinned 0 0 js c.passes head (omega (arith, count)) by.passes
