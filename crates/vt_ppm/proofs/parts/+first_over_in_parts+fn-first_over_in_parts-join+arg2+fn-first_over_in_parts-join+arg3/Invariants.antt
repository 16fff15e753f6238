use Rattle.std.proofs.Common.{◌+◌, ◌*◌}
use Rattle.vt_ppm.proofs.parts.+first_over_in_parts+fn-first_over_in_parts-join+arg2+fn-first_over_in_parts-join+arg3.Given as goal

abbrev pub decreases-first_over_in_parts : goal.decreases-first_over_in_parts
decreases-first_over_in_parts g l = 2 * l.threads

abbrev pub decreases-join+arg2 : goal.decreases-join+arg2
decreases-join+arg2 g l = 2 * l.few + 1

abbrev pub decreases-join+arg3 : goal.decreases-join+arg3
decreases-join+arg3 g l = 2 * l.many + 1
