use Rattle.std.proofs.Common.{arith}
use Rattle.vt_tests_words.proofs.Small.{five_pages}
use Rattle.vt_tests_words.proofs.streamer.small.is_unused.Goals as goal

pub is_mapped_to-requires : goal.is_mapped_to-requires
is_mapped_to-requires c = let five = five_pages _ _ _ c.requires in let low = c.loop-page-test.true in omega arith
