use Rattle.std.proofs.Common.{arith}
use Rattle.vt_schedules.proofs.Keeping.{puts}
use Rattle.vt_schedules.proofs.bag.RowBag.put.Goals as goal

pub push_as-requires-clause-rule : goal.push_as-requires-clause-rule
push_as-requires-clause-rule g c = puts _ _ _ (let e = c.requires.splits in omega (arith, e))
