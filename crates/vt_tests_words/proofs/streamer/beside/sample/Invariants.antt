use Rattle.vt_grace.specs.Tokens.{IsPassOf}
use Rattle.vt_tests_words.proofs.streamer.beside.sample.Given as goal

abbrev pub invariant-loop-row : goal.invariant-loop-row
invariant-loop-row l = IsPassOf l.words l.pass
