use Rattle.std.proofs.Common.{ℕ, ◌<◌}
use Rattle.std.specs.Prelude.{slice_index_or}
use Rattle.vt_evict.specs.PlanTypes.batches.Planned.{Planned}
use Rattle.vt_tests_words.specs.SmallStreams.{AreOther}
use Rattle.vt_tests_words.proofs.streamer.lawful.is_apart.Given as goal

-- it is another than the entries so far
abbrev pub invariant-loop-i : goal.invariant-loop-i
invariant-loop-i l = record {
  each : (k : ℕ) (d : Planned) → k < l.i → AreOther (slice_index_or l.batch k d) (slice_index_or l.batch l.place d);
}
