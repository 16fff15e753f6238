use Rattle.std.proofs.Common.{◌+◌, ◌*◌}
use Rattle.vt_ppm.proofs.parts.+fn-scale_in_parts-join_mut+arg2+fn-scale_in_parts-join_mut+arg3+scale_in_parts.Given as goal

abbrev pub decreases-join_mut+arg2 : goal.decreases-join_mut+arg2
decreases-join_mut+arg2 g l = 2 * l.few + 1

abbrev pub decreases-join_mut+arg3 : goal.decreases-join_mut+arg3
decreases-join_mut+arg3 g l = 2 * l.many + 1

abbrev pub decreases-scale_in_parts : goal.decreases-scale_in_parts
decreases-scale_in_parts g l = 2 * l.threads
