use Rattle.std.proofs.Common.{rules, ◌∷◌}
use Rattle.vt_swap.proofs.Entering.{entered_then, was_entered}
use Rattle.vt_swap.proofs.reader.draw_again.Goals as goal

pub returns-then-not-failed-clause-entered : goal.returns-then-not-failed-clause-entered
returns-then-not-failed-clause-entered g c =
    was_entered _ _ _ _ _ c.loop.invariant.1 c.try_row-back.ensures.entered c.try_row-back.ensures.later c.try_row-back.ensures.known

pub returns-then-not-failed-clause-drawn : goal.returns-then-not-failed-clause-drawn
returns-then-not-failed-clause-drawn g c = c.try_row-back.ensures.drawn (search rules)

pub loop-preserved : goal.loop-preserved
loop-preserved g c = (
  c.try_row-back.result.1 ∷ c.loop.invariant.0,
  entered_then _ _ _ _ _ c.loop.invariant.1 c.try_row-back.ensures.entered,
)
