use Rattle.std.proofs.Common.{length}
use Rattle.vt_machine.proofs.crewed.+work_one_by_one.Given as goal

abbrev pub decreases-work_one_by_one : goal.decreases-work_one_by_one
decreases-work_one_by_one g l = length l.workers.now.elements
