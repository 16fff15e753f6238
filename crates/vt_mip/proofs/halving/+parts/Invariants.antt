use Rattle.std.proofs.Common.{◌+◌, ◌-◌, ◌*◌}
use Rattle.vt_mip.proofs.halving.+parts.Given as goal

abbrev pub decreases-halve_in_parts : goal.decreases-halve_in_parts
decreases-halve_in_parts g l = 4 * l.height

abbrev pub decreases-halve_both : goal.decreases-halve_both
decreases-halve_both g l = 4 * (l.top + l.rest) - 1

abbrev pub decreases-halve_both-above : goal.decreases-halve_both-above
decreases-halve_both-above g l = 4 * l.top + 1

abbrev pub decreases-halve_both-below : goal.decreases-halve_both-below
decreases-halve_both-below g l = 4 * l.rest + 1
