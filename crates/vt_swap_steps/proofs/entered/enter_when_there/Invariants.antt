use Rattle.std.proofs.Common.{◌≡◌}
use Rattle.left_right.specs.Sides.{view}
use Rattle.vt_swap_steps.proofs.entered.enter_when_there.Given as goal

abbrev pub invariant-loop : goal.invariant-loop
invariant-loop g l = view l.reader.place ≡ view l.initial.reader.place
