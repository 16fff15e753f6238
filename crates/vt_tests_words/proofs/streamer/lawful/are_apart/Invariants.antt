use Rattle.std.proofs.Common.{ℕ, ◌<◌}
use Rattle.std.specs.Prelude.{slice_index_or}
use Rattle.vt_evict.specs.PlanTypes.batches.Planned.{Planned}
use Rattle.vt_tests_words.specs.SmallStreams.{AreOther}
use Rattle.vt_tests_words.proofs.streamer.lawful.are_apart.Given as goal

-- the entries so far are apart
abbrev pub invariant-loop-place : goal.invariant-loop-place
invariant-loop-place l = record {
  apart : (i k : ℕ) (d : Planned) → i < k → k < l.place → AreOther (slice_index_or l.batch i d) (slice_index_or l.batch k d);
}
