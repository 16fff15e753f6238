use Rattle.vt_tests_cache.proofs.Steps.{first_may}
use Rattle.vt_tests_cache.proofs.swap.bring_first.Goals as goal

pub bring-requires-clause-may : goal.bring-requires-clause-may
bring-requires-clause-may g c = first_may c.args.streamer.now.journal c.requires.rooted
