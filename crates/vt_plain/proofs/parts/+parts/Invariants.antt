use Rattle.std.proofs.Common.{◌+◌, ◌-◌, ◌*◌}
use Rattle.vt_plain.proofs.parts.+parts.Given as goal

abbrev pub decreases-draw_in_parts : goal.decreases-draw_in_parts
decreases-draw_in_parts g l = 3 * l.threads

abbrev pub decreases-draw_both : goal.decreases-draw_both
decreases-draw_both g l = 3 * (l.few + l.many) - 1

abbrev pub decreases-draw_both-above : goal.decreases-draw_both-above
decreases-draw_both-above g l = 3 * l.few + 1

abbrev pub decreases-draw_both-below : goal.decreases-draw_both-below
decreases-draw_both-below g l = 3 * l.many + 1
