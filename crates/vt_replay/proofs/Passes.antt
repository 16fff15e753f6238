-- What the passes of a lawful journal keep to.
use Rattle.std.proofs.Common.{◌≡◌, ◌⊎◌, ℕ, zero, suc, ◌+◌, ◌-◌, ◌<◌, ◌≤◌, List, [], ◌∷◌, ◌++◌, length, map, Option, Some, refl, sym, ap, ◌∙◌, subst, append_assoc, length-append, arith}
use Rattle.std.specs.Prelude.{slice_get, IsSome, All}
use Rattle.std.specs.List.{range_with_len}
use Rattle.std.proofs.lemmas.List.Elements.{All-nil, All-cons, All-append, All-get_or}
use Rattle.std.proofs.lemmas.Option.{slice_get_within, get_or_from_slice_get}
use Rattle.vt_definitions.specs.Limits.{most_frames}
use Rattle.vt_pages.specs.Shape.{Shape}
use Rattle.vt_pages.specs.Pages.{pages_of, root_of, IsWithinLimits}
use Rattle.vt_pages.proofs.Lines.{reaches_root}
use Rattle.vt_journal.specs.declared.changes.Change.{Change}
use Rattle.vt_journal.specs.declared.changes.Change.TheVariants.{Map, Unmap}
use Rattle.vt_journal.specs.declared.changes.Event.{Event}
use Rattle.vt_journal.specs.declared.changes.Event.TheVariants.{Changed, Lost}
use Rattle.vt_journal.specs.Changes.{at}
use Rattle.vt_journal.specs.Lookups.{change_page}
use Rattle.vt_journal.specs.Kept.{change_frame}
use Rattle.vt_journal.specs.JournalText.{Pass, Content, changes_of, passes_changes, content_changes, pinned_change, pinned_changes}
use Rattle.vt_journal.specs.JournalFlaws.{IsLawfulJournal}
use Rattle.vt_journal.specs.Following.{IsChangeWithin, AreEventsAfter, IsPassAfter, ArePassesAfter, IsLawfulByParts}
use Rattle.vt_journal.proofs.ByParts.{parts_of_lawful, content_pinned}
use Rattle.vt_journal.proofs.Growing.{lawful_in_turn}
use Rattle.vt_journal.proofs.Versions.{pinned_stay}
use Rattle.vt_journal.proofs.Heads.{count_to}
use Rattle.vt_replay_rows.specs.Following.{MayBePlayed}
use Rattle.vt_replay.specs.Playing.{AreRowsWithin, ArePlayed}

-- a change's page and frame are within their bounds
abbrev IsBounded : Shape → Change → Type 0
IsBounded s change = (change_page change < pages_of s) × (change_frame change < most_frames)

bounded : (s : Shape) (pinned : ℕ) (c : Change) → IsChangeWithin s pinned c → IsBounded s c
bounded s pinned (Map page frame) h = (h.0, h.1)
bounded s pinned (Unmap page frame) h = (omega (arith, h.0), h.1)

events_bounded : (s : Shape) (pinned : ℕ) (changes : List Change) (es : List Event) → AreEventsAfter s pinned changes es → All (IsBounded s) (changes_of es)
events_bounded s pinned changes [] h = All-nil (IsBounded s)
events_bounded s pinned changes (Changed c ∷ es) h =
    All-cons (IsBounded s) c (changes_of es) (bounded s pinned c h.0) (events_bounded s pinned (changes ++ c ∷ []) es h.2)
events_bounded s pinned changes (Lost page ∷ es) h = events_bounded s pinned changes es h.2

passes_bounded : (s : Shape) (height pinned : ℕ) (changes : List Change) (passes before : ℕ) (ps : List Pass)
    → ArePassesAfter s height pinned changes passes before ps → All (IsBounded s) (passes_changes ps)
passes_bounded s height pinned changes passes before [] h = All-nil (IsBounded s)
passes_bounded s height pinned changes passes before (p ∷ ps) h =
    All-append (IsBounded s) (changes_of p.events) (passes_changes ps) (events_bounded s pinned changes p.events h.0.events)
    (passes_bounded s height pinned (changes ++ changes_of p.events) (passes + 1) p.picture ps h.1)

head_bounded : (s : Shape) (pinned a n : ℕ) → a + n ≤ pinned → pinned ≤ pages_of s → pinned ≤ most_frames
    → All (IsBounded s) (map (pinned_change s pinned) (range_with_len a n))
head_bounded s pinned a zero few pages frames = All-nil (IsBounded s)
head_bounded s pinned a (suc n) few pages frames =
    let below : a < pinned = omega arith in
    All-cons (IsBounded s) (pinned_change s pinned a) (map (pinned_change s pinned) (range_with_len (a + 1) n))
    (omega arith, omega arith) (head_bounded s pinned (a + 1) n (omega arith) pages frames)

content_bounded : (s : Shape) (height : ℕ) (c : Content) → IsLawfulByParts s height c → All (IsBounded s) (content_changes s c)
content_bounded s height c by =
    All-append (IsBounded s) (pinned_changes s c.pinned) (passes_changes c.passes)
    (head_bounded s c.pinned 0 c.pinned (omega arith) by.head.few by.head.framed)
    (passes_bounded s height c.pinned (pinned_changes s c.pinned) 0 0 c.passes by.passes)

-- each change of a lawful journal is within its bounds
pub change_bounded : (s : Shape) (height : ℕ) (c : Content) → IsLawfulJournal s height c → (v : ℕ) (change : Change) → slice_get (content_changes s c) v ≡ Some change
    → (change_page change < pages_of s) × (change_frame change < most_frames)
change_bounded s height c lawful v change is =
    subst (IsBounded s) (get_or_from_slice_get (content_changes s c) v change change is)
    (All-get_or (IsBounded s) (content_changes s c) v change (slice_get_within (content_changes s c) v change is)
    (content_bounded s height c (parts_of_lawful s height c lawful)))

root_behind : (s : Shape) → IsWithinLimits s → root_of s + 1 ≡ pages_of s
root_behind s limits =
    let some : 2 ≤ s.tile = limits.least_tile in
    (reaches_root s 0 (omega arith) limits.least_width limits.least_height limits.some_page).root_is_last

-- a lawful journal may be played
pub may_be_played : (s : Shape) (height : ℕ) (c : Content) → IsLawfulJournal s height c → MayBePlayed s (content_changes s c)
may_be_played s height c lawful = record {
  in_pages = λ v change is. (change_bounded s height c lawful v change is).0;
  in_frames = λ v change is. (change_bounded s height c lawful v change is).1;
  in_turn = lawful_in_turn s height c lawful;
}

-- each version from that of the pinned pages on maps the root
pub root_mapped : (s : Shape) (height : ℕ) (c : Content) → IsWithinLimits s → IsLawfulJournal s height c → (v : ℕ) → c.pinned ≤ v → v ≤ length (content_changes s c)
    → IsSome (at (content_changes s c) v (root_of s))
root_mapped s height c limits lawful v low high =
    let by = parts_of_lawful s height c lawful in
    let some : 1 ≤ c.pinned = by.head.some in
    let few : c.pinned ≤ pages_of s = by.head.few in
    let page : pages_of s - c.pinned + (c.pinned - 1) ≡ root_of s = (let e = root_behind s limits in omega (arith, e, some, few)) in
    let mapped = pinned_stay s (content_changes s c) c.pinned v (c.pinned - 1) (lawful_in_turn s height c lawful)
    (content_pinned s height c by) high (omega (arith, some)) (omega (arith, some, low)) in
    subst (λ (o : Option ℕ). IsSome o) (sym (ap (at (content_changes s c) v) (sym page) ∙ mapped)) (some_is (c.pinned - 1))
  where
    some_is : (frame : ℕ) → IsSome (Some frame)
    some_is frame = refl

pass_rows : (s : Shape) (height pinned : ℕ) (changes : List Change) (passes before last : ℕ) (p : Pass) → IsPassAfter s height pinned changes passes before p
    → length changes + length (changes_of p.events) ≤ last → AreRowsWithin height p.start last p.rows
pass_rows s height pinned changes passes before last p h few = record {
  ordered = let e = h.start_is in omega (arith, e, few);
  count = h.rows.count;
  from = λ y row is. (h.rows.each y row is).from;
  to = λ y row is. (let e = (h.rows.each y row is).to in omega (arith, e, few));
}

each_pass : (s : Shape) (height pinned : ℕ) (changes : List Change) (passes before last : ℕ) (ps : List Pass)
    → ArePassesAfter s height pinned changes passes before ps → length (changes ++ passes_changes ps) ≤ last
    → (i : ℕ) (p : Pass) → slice_get ps i ≡ Some p → (length changes ≤ p.start) × AreRowsWithin height p.start last p.rows
each_pass s height pinned changes passes before last [] h few i p is = cc
each_pass s height pinned changes passes before last (q ∷ ps) h few zero p is =
    let same : q ≡ p = cc in
    let low : length changes ≤ q.start = (let e = h.0.start_is in omega (arith, e)) in
    let room : length changes + length (changes_of q.events) ≤ last =
    omega (arith, few, length-append changes (changes_of q.events ++ passes_changes ps), length-append (changes_of q.events) (passes_changes ps)) in
    subst (λ (x : Pass). (length changes ≤ x.start) × AreRowsWithin height x.start last x.rows) same
    (low, pass_rows s height pinned changes passes before last q h.0 room)
each_pass s height pinned changes passes before last (q ∷ ps) h few (suc i) p is =
    let more : length ((changes ++ changes_of q.events) ++ passes_changes ps) ≤ last =
    subst (λ (js : List Change). length js ≤ last) (sym (append_assoc changes (changes_of q.events) (passes_changes ps))) few in
    let rest = each_pass s height pinned (changes ++ changes_of q.events) (passes + 1) q.picture last ps h.1 more i p is in
    let low = rest.0 in
    (omega (arith, low, length-append changes (changes_of q.events)), rest.1)

each_pair : (s : Shape) (height pinned : ℕ) (changes : List Change) (passes before : ℕ) (ps : List Pass)
    → ArePassesAfter s height pinned changes passes before ps
    → (i : ℕ) (p q : Pass) → slice_get ps i ≡ Some p → slice_get ps (suc i) ≡ Some q
    → ((q.picture ≡ p.picture) ⊎ (q.picture ≡ p.picture + 1)) × AreRowsWithin height p.start q.start p.rows
each_pair s height pinned changes passes before [] h i p q is then = cc
each_pair s height pinned changes passes before (a ∷ []) h zero p q is then = cc
each_pair s height pinned changes passes before (a ∷ b ∷ ps) h zero p q is then =
    let first : a ≡ p = cc in
    let second : b ≡ q = cc in
    let turn = h.1.0.picture_is.later (omega arith) in
    let start : length changes + length (changes_of a.events) ≤ b.start = (let e = h.1.0.start_is in omega (
      arith,
      e,
      length-append changes
          (changes_of a.events),
    )) in
    subst (λ (x : Pass). ((q.picture ≡ x.picture) ⊎ (q.picture ≡ x.picture + 1)) × AreRowsWithin height x.start q.start x.rows) first
    (subst (λ (y : Pass). ((y.picture ≡ a.picture) ⊎ (y.picture ≡ a.picture + 1)) × AreRowsWithin height a.start y.start a.rows) second
    (turn, pass_rows s height pinned changes passes before b.start a h.0 start))
each_pair s height pinned changes passes before (a ∷ ps) h (suc i) p q is then =
    each_pair s height pinned (changes ++ changes_of a.events) (passes + 1) a.picture ps h.1 i p q is then

first_pass : (s : Shape) (height pinned : ℕ) (changes : List Change) (ps : List Pass) → ArePassesAfter s height pinned changes 0 0 ps
    → (p : Pass) → slice_get ps 0 ≡ Some p → p.picture ≡ 0
first_pass s height pinned changes [] h p is = cc
first_pass s height pinned changes (q ∷ ps) h p is = let same : q ≡ p = cc in subst (λ (x : Pass). x.picture ≡ 0) same (h.0.picture_is.first refl)

-- the passes of a lawful journal are played in their order
pub are_played : (s : Shape) (height : ℕ) (c : Content) → IsLawfulJournal s height c → ArePlayed height c.pinned (length (content_changes s c)) c.passes
are_played s height c lawful =
    let by = parts_of_lawful s height c lawful in
    let js = pinned_changes s c.pinned in
    let count : length js ≡ c.pinned = count_to s c.pinned c.pinned in
    record {
      first = first_pass s height c.pinned js c.passes by.passes;
      starts = λ i p is. (let low = (each_pass s height c.pinned js 0 0 (length (content_changes s c)) c.passes by.passes
          (omega arith) i p is).0 in omega (arith, low, count));
      rows = λ i p is. (each_pass s height c.pinned js 0 0 (length (content_changes s c)) c.passes by.passes (omega arith) i p is).1;
      pictures = λ i p q is then. (each_pair s height c.pinned js 0 0 c.passes by.passes i p q is (ap (slice_get c.passes)
          (let e : suc i ≡ i + 1 = omega arith in e) ∙ then)).0;
      rise = λ i p q is then. (each_pair s height c.pinned js 0 0 c.passes by.passes i p q is (ap (slice_get c.passes)
          (let e : suc i ≡ i + 1 = omega arith in e) ∙ then)).1;
    }
