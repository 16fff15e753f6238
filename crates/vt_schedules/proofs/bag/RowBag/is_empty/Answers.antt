use Rattle.vt_schedules.proofs.Keeping.{finds}
use Rattle.vt_schedules.proofs.bag.RowBag.is_empty.Goals as goal

pub is_empty_as-requires-clause-rule : goal.is_empty_as-requires-clause-rule
is_empty_as-requires-clause-rule c = finds _ _
