use Rattle.std.proofs.Common.{rules}
use Rattle.vt_swap.proofs.Entering.{was_later}
use Rattle.vt_swap.proofs.reader.TableReader.draw_row.Goals as goal

pub returns-then-not-failed-clause-drawn : goal.returns-then-not-failed-clause-drawn
returns-then-not-failed-clause-drawn g c = c.try_row-reader.ensures.drawn (search rules)

pub returns-clause-entered : goal.returns-clause-entered
returns-clause-entered g c = was_later _ _ _ _ _ c.try_row-reader.ensures.entered c.draw_again.ensures.entered
