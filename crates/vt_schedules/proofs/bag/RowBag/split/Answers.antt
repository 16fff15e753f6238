use Rattle.std.proofs.Common.{arith}
use Rattle.vt_queue.proofs.Keeping.{forks}
use Rattle.vt_schedules.proofs.bag.RowBag.split.Goals as goal

pub another-other-requires-clause-rule : goal.another-other-requires-clause-rule
another-other-requires-clause-rule c = forks _ _ (let e = c.requires.splits in omega (arith, e))
