use Rattle.std.proofs.Common.{length}
use Rattle.vt_crew.proofs.crew.end_all.Given as goal

abbrev pub decreases-loop-desk : goal.decreases-loop-desk
decreases-loop-desk g l = length l.desks.items
