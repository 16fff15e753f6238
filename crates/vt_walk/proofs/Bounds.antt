-- How long the journal of a run is at most, and how many events and reads it has.
use Rattle.std.proofs.Common.{◌≡◌, ℕ, zero, suc, ◌+◌, ◌*◌, ◌≤◌, Bool, true, false, List, [], ◌∷◌, ◌++◌, length, map, Option, Some, None, refl, ap, length-append, arith}
use Rattle.std.specs.Prelude.{All, count_by, slice_get, slice_index_or}
use Rattle.std.specs.List.{AllByRecursion, range_with_len}
use Rattle.std.proofs.lemmas.List.Elements.{All-from_recursion}
use Rattle.std.proofs.lemmas.List.Sorted.{length_permutation}
use Rattle.std.proofs.lemmas.List.Sums.{sum_by-cons, count_by-le-length}
use Rattle.std.proofs.lemmas.List.FromFn.{length-range_with_len}
use Rattle.vt_pages.specs.Limits.{most_entries}
use Rattle.vt_pages.specs.Shape.{Shape}
use Rattle.vt_journal.specs.declared.changes.Change.{Change}
use Rattle.vt_journal.specs.declared.changes.Change.TheVariants.{Map, Unmap}
use Rattle.vt_journal.specs.declared.changes.Event.{Event}
use Rattle.vt_journal.specs.declared.changes.Event.TheVariants.{Changed, Lost}
use Rattle.vt_journal.specs.JournalText.{IsEventInChain, changes_of, pinned_change}
use Rattle.vt_journal.specs.Following.{AreEventsAfter}
use Rattle.vt_journal.proofs.EventLines.{length-changes_of}
use Rattle.vt_evict.specs.PlanTypes.batches.Planned.{Planned}
use Rattle.vt_walk_decisions.specs.Outcomes.{victim_events, group_if, group_at, pass_events, IsOutcome}
use Rattle.vt_walk.specs.Fits.{WalkSetup}
use Rattle.vt_walk.specs.Runs.{WalkPass, IsWalkSetup, IsWalkRun, IsNextPass, journal_after}
use Rattle.vt_walk.specs.Logs.{events_in, reads_of}
use Rattle.vt_walk.proofs.Asking.{reads_more}
use Rattle.vt_walk.proofs.Running.{plan_most}
use Rattle.vt_walk.proofs.RunContents.{next_content}

group_short : (o : Option Planned) (lost : Bool) → length (group_if o lost) ≤ 2
group_short None lost = omega arith
group_short (Some e) true = omega arith
group_short (Some e) false = by_victim e.victim where
  by_victim : (v : Option ℕ) → length (victim_events v e.frame ++ Changed (Map e.page e.frame) ∷ []) ≤ 2
  by_victim None = omega arith
  by_victim (Some v) = omega arith

groups_short : (batch : List Planned) (losses : List Bool) (order : List ℕ) → length (pass_events batch losses order) ≤ 2 * length order
groups_short batch losses [] = omega arith
groups_short batch losses (k ∷ order) =
    omega (
      arith,
      length-append (group_at batch losses k) (pass_events batch losses order),
      group_short (slice_get batch k)
          (slice_index_or losses k true),
      groups_short batch losses order,
    )

-- an entry has two events at most
pub outcome_short : (batch : List Planned) (losses : List Bool) (events : List Event) → IsOutcome batch losses events → length events ≤ 2 * length batch
outcome_short batch losses events outcome =
    omega (
      arith,
      ap length outcome.groups,
      groups_short batch losses outcome.order,
      length_permutation _ _ outcome.each_once,
      length-range_with_len 0
          (length batch),
    )

pub batch_short : (w : WalkSetup) (passes : List WalkPass) (p : WalkPass) → w.most ≤ most_entries → IsNextPass w passes p → length p.batch ≤ most_entries
batch_short w passes p few next = omega (arith, few, plan_most w passes, ap length next.planned)

pub events_short : (w : WalkSetup) (passes : List WalkPass) (p : WalkPass) → w.most ≤ most_entries → IsNextPass w passes p → length p.events ≤ 8192
events_short w passes p few next = omega (arith, batch_short w passes p few next, outcome_short p.batch p.losses p.events next.outcome)

length-pinned : (f : ℕ → Change) (a n : ℕ) → length (map f (range_with_len a n)) ≡ n
length-pinned f a zero = refl
length-pinned f a (suc n) = ap suc (length-pinned f (a + 1) n)

pub journal_short : (w : WalkSetup) (passes : List WalkPass) → w.most ≤ most_entries → IsWalkRun w passes
    → length (journal_after w passes) ≤ w.pinned + 8192 * length passes
journal_short w [] few run = omega (arith, length-pinned (pinned_change w.shape w.pinned) 0 w.pinned)
journal_short w (p ∷ passes) few run =
    omega (
      arith,
      length-append (journal_after w passes) (changes_of p.events),
      length-changes_of p.events,
      events_short w passes p few run.1,
      journal_short w passes few run.0,
    )

pub kind_short : (w : WalkSetup) (kind : Event → Bool) (passes : List WalkPass) → w.most ≤ most_entries → IsWalkRun w passes
    → events_in kind passes ≤ 8192 * length passes
kind_short w kind [] few run = omega arith
kind_short w kind (p ∷ passes) few run =
    omega (
      arith,
      sum_by-cons (λ (q : WalkPass). count_by kind q.events) p passes,
      count_by-le-length kind p.events,
      events_short w passes p few run.1,
      kind_short w kind passes few run.0,
    )

pub reads_short : (w : WalkSetup) (passes : List WalkPass) → w.most ≤ most_entries → IsWalkRun w passes
    → reads_of w passes ≤ w.pinned + most_entries * length passes
reads_short w [] few run = omega arith
reads_short w (p ∷ passes) few run = omega (arith, reads_more w p passes, batch_short w passes p few run.1, reads_short w passes few run.0)

in_chain : (s : Shape) (pinned : ℕ) (js : List Change) (es : List Event) → AreEventsAfter s pinned js es → AllByRecursion (IsEventInChain s) es
in_chain s pinned js [] all = tt
in_chain s pinned js (Changed (Map page frame) ∷ es) all = (all.0.0, in_chain s pinned (js ++ Map page frame ∷ []) es all.2)
in_chain s pinned js (Changed (Unmap page frame) ∷ es) all =
    (let h = all.0.0 in omega (arith, h), in_chain s pinned (js ++ Unmap page frame ∷ []) es all.2)
in_chain s pinned js (Lost page ∷ es) all = (all.0, in_chain s pinned js es all.2)

-- the events of the next pass are in the chain
pub events_in_chain : (w : WalkSetup) (passes : List WalkPass) (p : WalkPass) → IsWalkSetup w → IsWalkRun w passes → IsNextPass w passes p
    → All (IsEventInChain w.shape) p.events
events_in_chain w passes p h run next =
    All-from_recursion (IsEventInChain w.shape) p.events (in_chain w.shape w.pinned (journal_after w passes) p.events
    (next_content w passes p h run next).events)
