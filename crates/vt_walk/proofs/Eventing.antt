-- The events of a pass may come after one another, in whatever order its entries came.
use Rattle.std.proofs.Common.{◌≡◌, ◌≢◌, ℕ, zero, suc, ◌+◌, ◌<◌, ◌≤◌, ◌⊎◌, inl, inr, Bool, true, false, List, [], ◌∷◌, ◌++◌, length, Option, Some, None, refl, sym, ap, ◌∙◌, subst, append_assoc, nat_eq, arith}
use Rattle.std.specs.Prelude.{slice_get, slice_index_or, MatchOption, All, AllPairs}
use Rattle.std.specs.List.{AllByRecursion, IsDistinct, range_with_len}
use Rattle.std.proofs.lemmas.Bool.{false≢true, cases_lt}
use Rattle.std.proofs.lemmas.List.{append-nil}
use Rattle.std.proofs.lemmas.List.Elements.{All-from_recursion, recursion_from_All}
use Rattle.std.proofs.lemmas.List.Sorted.{All-permutation}
use Rattle.std.proofs.lemmas.Map.Keys.{IsDistinct-IsPermutation}
use Rattle.std.proofs.lemmas.Option.{slice_get_within, get_or_from_slice_get, slice_get-get_or}
use Rattle.vt_pages.specs.Shape.{Shape}
use Rattle.vt_pages.specs.Pages.{pages_of}
use Rattle.vt_journal.specs.declared.changes.Change.{Change}
use Rattle.vt_journal.specs.declared.changes.Change.TheVariants.{Map, Unmap}
use Rattle.vt_journal.specs.declared.changes.Event.{Event}
use Rattle.vt_journal.specs.declared.changes.Event.TheVariants.{Changed, Lost}
use Rattle.vt_journal.specs.Changes.{Table, changed, newest, IsFree, IsNext, IsOneToOne, AreInTurn}
use Rattle.vt_journal.specs.JournalText.{changes_of}
use Rattle.vt_journal.specs.Following.{AreEventsAfter}
use Rattle.vt_journal.proofs.Versions.{newest-more, in_turn-more, one_to_one, mapped_after_unmap}
use Rattle.vt_evict.specs.PlanTypes.batches.Planned.{Planned}
use Rattle.vt_evict.proofs.SettleLemmas.{self_eq}
use Rattle.vt_evict.proofs.ListLemmas.{nat_eq_swap, range_once}
use Rattle.vt_walk_decisions.specs.Outcomes.{IsEntryFor, IsBatchFor, IsVictimOf, victim_events, group_of, group_if, group_at, pass_events, IsOutcome}
use Rattle.vt_walk_decisions.proofs.Streaming.{entry_stays}

-- an entry's victim is not pinned
abbrev pub HasUnpinnedVictim : Shape → ℕ → Planned → Type 0
HasUnpinnedVictim s pinned e = MatchOption e.victim (Unit {0}) (λ v. v + pinned < pages_of s)

events_append : (s : Shape) (pinned : ℕ) (js : List Change) (es fs : List Event) → AreEventsAfter s pinned js es
    → AreEventsAfter s pinned (js ++ changes_of es) fs
    → AreEventsAfter s pinned js (es ++ fs)
events_append s pinned js [] fs one more = subst (λ (ks : List Change). AreEventsAfter s pinned ks fs) (append-nil js) more
events_append s pinned js (Changed c ∷ es) fs one more = (
  one.0,
  one.1,
  events_append s pinned (js ++ c ∷ []) es fs one.2
      (subst (λ (ks : List Change). AreEventsAfter s pinned ks fs) (sym (append_assoc js (c ∷ []) (changes_of es))) more),
)
events_append s pinned js (Lost p ∷ es) fs one more = (one.0, one.1, events_append s pinned js es fs one.2 more)

pub events_in_turn : (s : Shape) (pinned : ℕ) (js : List Change) (es : List Event) → AreInTurn js → AreEventsAfter s pinned js es
    → AreInTurn (js ++ changes_of es)
events_in_turn s pinned js [] step all = subst AreInTurn (sym (append-nil js)) step
events_in_turn s pinned js (Changed c ∷ es) step all =
    subst AreInTurn (append_assoc js (c ∷ []) (changes_of es)) (events_in_turn s pinned (js ++ c ∷ []) es (in_turn-more js c step all.1) all.2)
events_in_turn s pinned js (Lost p ∷ es) step all = events_in_turn s pinned js es step all.2

unmapped_still : (m : Table) (page v frame : ℕ) → m page ≡ None → changed m (Unmap v frame) page ≡ None
unmapped_still m page v frame none = pick (changed m (Unmap v frame) page) refl where
  pick : (o : Option ℕ) → changed m (Unmap v frame) page ≡ o → changed m (Unmap v frame) page ≡ None
  pick None is = is
  pick (Some f) is = absurd (let was : Some f ≡ None = sym (mapped_after_unmap m v frame page f is).1 ∙ none in none_is_some f was) where
    none_is_some : (f : ℕ) → Some f ≡ None → ⊥
    none_is_some f e = cc

then_free : (m : Table) (v frame : ℕ) → IsOneToOne m → m v ≡ Some frame → IsFree (changed m (Unmap v frame)) frame
then_free m v frame one held q is = let was = mapped_after_unmap m v frame q frame is in was.0 (one q v frame was.1 held)

-- the group of an entry may come next
group_follows : (s : Shape) (frames pinned : ℕ) (js : List Change) (e : Planned) (lost : Bool) → frames ≤ 65535 → AreInTurn js
    → IsEntryFor s frames (newest js) e
    → HasUnpinnedVictim s pinned e → AreEventsAfter s pinned js (group_of e lost)
group_follows s frames pinned js e true few step h unpinned = (h.page_inside, h.unmapped, tt)
group_follows s frames pinned js e false few step h unpinned = by_victim e.victim h.place unpinned where
  by_victim : (o : Option ℕ) → MatchOption o (IsFree (newest js) e.frame) (IsVictimOf s (newest js) e.frame)
      → MatchOption o (Unit {0}) (λ v. v + pinned < pages_of s)
      → AreEventsAfter s pinned js (victim_events o e.frame ++ Changed (Map e.page e.frame) ∷ [])
  by_victim None free u = ((h.page_inside, omega (arith, few, h.frame_inside)), (h.unmapped, free), tt)
  by_victim (Some v) is u =
      let after : newest (js ++ Unmap v e.frame ∷ []) ≡ changed (newest js) (Unmap v e.frame) = newest-more js (Unmap v e.frame) in
      let next : IsNext (changed (newest js) (Unmap v e.frame)) (Map e.page e.frame) =
      (unmapped_still (newest js) e.page v e.frame h.unmapped, then_free (newest js) v e.frame (one_to_one js (length js) step (omega arith)) is.mapped) in (
        (u, omega (arith, few, h.frame_inside)),
        is.mapped,
        ((h.page_inside, omega (arith, few, h.frame_inside)), subst (λ (m : Table). IsNext m (Map e.page e.frame)) (sym after) next, tt),
      )

-- the entry of a ticket that has not come yet
record IsTicket (s : Shape) (frames pinned : ℕ) (m : Table) (batch : List Planned) (k : ℕ) : Type 0 where
  pub entry : Planned
  pub there : slice_get batch k ≡ Some entry
  pub lawful : IsEntryFor s frames m entry
  pub unpinned : HasUnpinnedVictim s pinned entry

abbrev AreApart : Planned → Planned → Type 0
AreApart e f = (e.page ≢ f.page) × (e.frame ≢ f.frame)

later_apart : (batch : List Planned) (j k : ℕ) (e f : Planned) → AllPairs AreApart batch → slice_get batch j ≡ Some e → slice_get batch k ≡ Some f
    → j < k → AreApart e f
later_apart batch j k e f apart at_j at_k before =
    subst (λ (x : Planned). AreApart x f) (get_or_from_slice_get batch j e e at_j)
    (subst (λ (y : Planned). AreApart (slice_index_or batch j e) y) (get_or_from_slice_get batch k f e at_k)
    (apart j k e before (slice_get_within batch k f at_k)))

tickets_apart : (batch : List Planned) (j k : ℕ) (e f : Planned) → AllPairs AreApart batch → slice_get batch j ≡ Some e → slice_get batch k ≡ Some f
    → nat_eq j k ≡ false → AreApart e f
tickets_apart batch j k e f apart at_j at_k other = pick (cases_lt j k) (cases_lt k j) where
  pick : (j < k) ⊎ (k ≤ j) → (k < j) ⊎ (j ≤ k) → AreApart e f
  pick (inl before) o = later_apart batch j k e f apart at_j at_k before
  pick (inr least) (inl after) = let a = later_apart batch k j f e apart at_k at_j after in (λ same. a.0 (sym same), λ same. a.1 (sym same))
  pick (inr least) (inr most) = absurd (let same : j ≡ k = omega arith in false≢true (sym other ∙ ap (nat_eq j) (sym same) ∙ self_eq j))

-- the tickets that are left stay lawful
tickets_stay : (s : Shape) (frames pinned : ℕ) (js : List Change) (batch : List Planned) (j : ℕ) (e : Planned) (lost : Bool) (rest : List ℕ)
    → AllPairs AreApart batch
    → slice_get batch j ≡ Some e → IsEntryFor s frames (newest js) e → AllByRecursion (λ k. nat_eq j k ≡ false) rest
    → AllByRecursion (IsTicket s frames pinned (newest js) batch) rest
    → AllByRecursion (IsTicket s frames pinned (newest (js ++ changes_of (group_of e lost))) batch) rest
tickets_stay s frames pinned js batch j e lost [] apart at h others all = tt
tickets_stay s frames pinned js batch j e lost (k ∷ rest) apart at h others all = (
  record {
    entry = all.0.entry;
    there = all.0.there;
    lawful = entry_stays s frames js e all.0.entry lost h all.0.lawful (tickets_apart batch j k e all.0.entry apart at all.0.there others.0);
    unpinned = all.0.unpinned;
  },
  tickets_stay s frames pinned js batch j e lost rest apart at h others.1 all.1,
)

tickets_follow : (s : Shape) (frames pinned : ℕ) (js : List Change) (batch : List Planned) (losses : List Bool) (order : List ℕ) → frames ≤ 65535 → AreInTurn js
    → AllPairs AreApart batch → IsDistinct nat_eq order → AllByRecursion (IsTicket s frames pinned (newest js) batch) order
    → AreEventsAfter s pinned js (pass_events batch losses order)
unfolding IsDistinct
tickets_follow s frames pinned js batch losses [] few step apart once all = tt
tickets_follow s frames pinned js batch losses (j ∷ order) few step apart once all =
    let e = all.0.entry in
    let lost = slice_index_or losses j true in
    let group : group_at batch losses j ≡ group_of all.0.entry (slice_index_or losses j true) = ap
    (λ (o : Option Planned). group_if o (slice_index_or losses j true)) all.0.there in
    let here = group_follows s frames pinned js e lost few step all.0.lawful all.0.unpinned in
    let rest = tickets_follow s frames pinned (js ++ changes_of (group_of e lost)) batch losses order few
    (events_in_turn s pinned js (group_of e lost) step here) apart once.1
    (tickets_stay s frames pinned js batch j e lost order apart all.0.there all.0.lawful once.0 all.1) in
    subst (λ (es : List Event). AreEventsAfter s pinned js (es ++ pass_events batch losses order)) (sym group)
    (events_append s pinned js (group_of e lost) (pass_events batch losses order) here rest)

all_below : (a n m : ℕ) → a + n ≤ m → AllByRecursion (λ k. k < m) (range_with_len a n)
all_below a zero m h = tt
all_below a (suc n) m h = (omega (arith, h), all_below (a + 1) n m (omega (arith, h)))

each_ticket : (s : Shape) (frames pinned : ℕ) (m : Table) (batch : List Planned) (order : List ℕ) → IsBatchFor s frames m batch
    → All (HasUnpinnedVictim s pinned) batch
    → AllByRecursion (λ k. k < length batch) order → AllByRecursion (IsTicket s frames pinned m batch) order
each_ticket s frames pinned m batch [] lawful unpinned all = tt
each_ticket s frames pinned m batch (k ∷ order) lawful unpinned all = (
  record {
    entry = slice_index_or batch k (record { page = 0; frame = 0; victim = None });
    there = slice_get-get_or batch k (record { page = 0; frame = 0; victim = None }) all.0;
    lawful = lawful.each k (record { page = 0; frame = 0; victim = None }) all.0;
    unpinned = unpinned k (record { page = 0; frame = 0; victim = None }) all.0;
  },
  each_ticket s frames pinned m batch order lawful unpinned all.1,
)

-- the events of an outcome may come after the journal
pub outcome_follows : (s : Shape) (frames pinned : ℕ) (js : List Change) (batch : List Planned) (losses : List Bool) (events : List Event)
    → frames ≤ 65535 → AreInTurn js
    → IsBatchFor s frames (newest js) batch → All (HasUnpinnedVictim s pinned) batch → IsOutcome batch losses events → AreEventsAfter s pinned js events
outcome_follows s frames pinned js batch losses events few step lawful unpinned outcome =
    let once = IsDistinct-IsPermutation nat_eq nat_eq_swap (range_with_len 0 (length batch)) outcome.order outcome.each_once (range_once 0 (length batch)) in
    let below = recursion_from_All (λ k. k < length batch) outcome.order
    (All-permutation (λ k. k < length batch) (range_with_len 0 (length batch)) outcome.order outcome.each_once
    (All-from_recursion (λ k. k < length batch) (range_with_len 0 (length batch)) (all_below 0 (length batch) (length batch) (omega arith)))) in
    subst (AreEventsAfter s pinned js) (sym outcome.groups)
    (tickets_follow s frames pinned js batch losses outcome.order few step lawful.apart once
    (each_ticket s frames pinned (newest js) batch outcome.order lawful unpinned below))
