-- What is reported of a batch while it is streamed.
use Rattle.std.specs.Prelude.{◌≡◌, ℕ, ◌+◌, ◌*◌, ◌≤◌, true, false, Some, List, [], ◌∷◌, ◌++◌, length, slice_get, slice_index_or, slice_set}
use Rattle.vt_journal.specs.declared.changes.Event.{Event}
use Rattle.vt_journal.specs.Changes.{newest}
use Rattle.vt_journal.specs.JournalText.{changes_of}
use Rattle.vt_requests.specs.PlanTypes.batches.Planned.{Planned}
use Rattle.vt_queue.specs.declared.items.Loaded.{Loaded}
use Rattle.vt_requests.specs.Readings.{is_lost}
use Rattle.vt_requests.specs.Outcomes.{IsEntryFor}
use Rattle.vt_requests.specs.BatchRounds.{result_events}
use Rattle.vt_requests.specs.declared.report.StreamReport.{StreamReport}
use Rattle.vt_streaming.specs.declared.target.Target.{Ghosts as TargetMeanings}
use Rattle.vt_streaming.specs.Applied.{AreApplied}

-- a writer made the changes of some events, and may make as many as before but for two
pub record HasChanged {A W : Type 0} (target : TargetMeanings A W) (events : List Event) (v w : W) : Type 0 where
  pub journal : target.journal w ≡ target.journal v ++ changes_of events
  pub room : (n : ℕ) → target.has_room v (n + 2) → target.has_room w n

-- a result was noted: whether it is lost, that it was taken, and the result itself
pub record HasNotedResult (result : Loaded) (r t : StreamReport) : Type 0 where
  pub losses : t.losses.elements ≡ slice_set r.losses.elements result.request.ticket (is_lost result.outcome)
  pub taken : t.taken.elements ≡ slice_set r.taken.elements result.request.ticket true
  pub results : t.results.elements ≡ r.results.elements ++ result ∷ []
  pub results_room : r.results.spare ≤ t.results.spare + 1
  pub events_room : r.events.spare ≤ t.events.spare + 2

-- results were streamed, and each entry whose result was not taken is lawful for the table as it is now
pub record IsUnderWay {A W : Type 0} (target : TargetMeanings A W) (a : A) (batch : List Planned) (start v : W) (before : List Event)
    (r : StreamReport) : Type 0 where
  pub applied : AreApplied (target.has_put a) batch r.results.elements start v
  pub events : r.events.elements ≡ before ++ result_events batch r.results.elements
  pub ahead : (k : ℕ) (e : Planned) → slice_get batch k ≡ Some e → slice_index_or r.taken.elements k false ≡ false
      → IsEntryFor (target.shape start) (target.frame_count start) (newest (target.journal v)) e
  pub room : 2 * length batch ≤ 2 * length r.results.elements + r.events.spare
  pub left : (n : ℕ) → n + length r.results.elements ≡ length batch → target.has_room v (2 * n)
