use Rattle.vt_tests_cache.proofs.Steps.{root_may}
use Rattle.vt_tests_cache.proofs.swap.bring_root.Goals as goal

pub map-requires-clause-next : goal.map-requires-clause-next
map-requires-clause-next g c = root_may c.args.streamer.now.journal c.requires.new
