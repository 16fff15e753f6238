use Rattle.std.proofs.Common.{arith}
use Rattle.vt_queue.proofs.Keeping.{merges}
use Rattle.vt_schedules.proofs.bag.RowBag.join.Goals as goal

pub absorb-requires-clause-rule : goal.absorb-requires-clause-rule
absorb-requires-clause-rule c = merges _ _ _ _ (let e = c.requires.0.splits in omega (arith, e))
