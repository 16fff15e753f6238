use Rattle.std.proofs.Common.{length}
use Rattle.vt_machine.proofs.work.+fn-work_all-join_mut+arg2+fn-work_all-join_mut+arg3+work_all.Given as goal

abbrev pub decreases-join_mut+arg2 : goal.decreases-join_mut+arg2
decreases-join_mut+arg2 g l = length l.low.now

abbrev pub decreases-join_mut+arg3 : goal.decreases-join_mut+arg3
decreases-join_mut+arg3 g l = length l.high.now

abbrev pub decreases-work_all : goal.decreases-work_all
decreases-work_all g l = length l.tasks.now
