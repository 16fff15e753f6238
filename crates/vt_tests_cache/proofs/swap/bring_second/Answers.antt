use Rattle.vt_tests_cache.proofs.Steps.{second_may}
use Rattle.vt_tests_cache.proofs.swap.bring_second.Goals as goal

pub bring-requires-clause-may : goal.bring-requires-clause-may
bring-requires-clause-may g c = second_may c.args.streamer.now.journal c.requires.first
