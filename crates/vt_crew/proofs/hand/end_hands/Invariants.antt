use Rattle.std.proofs.Common.{length}
use Rattle.vt_crew.proofs.hand.end_hands.Given as goal

abbrev pub decreases-loop-place : goal.decreases-loop-place
decreases-loop-place g l = length l.hands.items
