use Rattle.std.proofs.Common.{arith}
use Rattle.vt_tests_words.proofs.Small.{all_frames}
use Rattle.vt_tests_words.proofs.streamer.small.freed.Goals as goal

pub try_free-requires-clause-inside : goal.try_free-requires-clause-inside
try_free-requires-clause-inside c = let all = all_frames _ _ _ c.requires.small in let low = c.requires.inside in omega arith
