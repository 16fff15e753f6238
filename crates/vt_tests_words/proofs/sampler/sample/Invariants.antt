use Rattle.vt_tests_words.specs.SmallStreams.{MayDrawSmall}
use Rattle.vt_tests_words.proofs.sampler.sample.Given as goal

abbrev pub invariant-loop-i : goal.invariant-loop-i
invariant-loop-i l = MayDrawSmall l.words l.geometry l.path l.sampler l.pass
