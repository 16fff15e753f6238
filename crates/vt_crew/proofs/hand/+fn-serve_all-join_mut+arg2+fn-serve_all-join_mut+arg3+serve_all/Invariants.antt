use Rattle.std.proofs.Common.{length}
use Rattle.vt_crew.proofs.hand.+fn-serve_all-join_mut+arg2+fn-serve_all-join_mut+arg3+serve_all.Given as goal

abbrev pub decreases-join_mut+arg2 : goal.decreases-join_mut+arg2
decreases-join_mut+arg2 g l = length l.low.now

abbrev pub decreases-join_mut+arg3 : goal.decreases-join_mut+arg3
decreases-join_mut+arg3 g l = length l.high.now

abbrev pub decreases-serve_all : goal.decreases-serve_all
decreases-serve_all g l = length l.hands.now
