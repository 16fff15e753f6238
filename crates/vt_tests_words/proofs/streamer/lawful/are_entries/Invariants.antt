use Rattle.std.proofs.Common.{ℕ, ◌<◌}
use Rattle.std.specs.Prelude.{slice_index_or}
use Rattle.vt_evict.specs.PlanTypes.batches.Planned.{Planned}
use Rattle.vt_journal.specs.Changes.{newest}
use Rattle.vt_streaming.specs.Outcomes.{IsEntryFor}
use Rattle.vt_tests_words.proofs.streamer.lawful.are_entries.Given as goal

-- the entries so far are lawful
abbrev pub invariant-loop-i : goal.invariant-loop-i
invariant-loop-i l = record {
  each : (k : ℕ) (d : Planned) → k < l.i → IsEntryFor l.streamer.shape l.frames (newest l.streamer.writer.journal) (slice_index_or l.batch k d);
}
