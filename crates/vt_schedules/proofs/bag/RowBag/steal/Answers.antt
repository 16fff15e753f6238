use Rattle.std.proofs.Common.{arith}
use Rattle.vt_schedules.proofs.Keeping.{takes, finds}
use Rattle.vt_schedules.proofs.bag.RowBag.steal.Goals as goal

pub steal_as-requires-clause-rule : goal.steal_as-requires-clause-rule
steal_as-requires-clause-rule g c = (takes _ _ (let e = c.requires.splits in omega (arith, e)), finds _ _)
