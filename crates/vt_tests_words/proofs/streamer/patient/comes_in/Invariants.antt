use Rattle.std.proofs.Common.{◌≡◌}
use Rattle.vt_tests_words.specs.SmallStreams.{IsSmallStreamer}
use Rattle.vt_tests_words.proofs.streamer.patient.comes_in.Given as goal

abbrev pub invariant-loop-turn : goal.invariant-loop-turn
invariant-loop-turn l = IsSmallStreamer l.words 3 l.streamer × (l.streamer.writer.out ≡ l.fn.streamer.writer.out)
