use Rattle.std.proofs.Common.{length}
use Rattle.vt_tests_walks.proofs.pass.stores.close_all.Given as goal

abbrev pub decreases-loop-store : goal.decreases-loop-store
decreases-loop-store g l = length l.stores.elements
