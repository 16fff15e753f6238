use Rattle.std.proofs.Common.{arith}
use Rattle.vt_queue.proofs.Keeping.{merges, learns}
use Rattle.vt_queue.proofs.queue.Queue.join.Goals as goal

pub absorb-requires-clause-rule : goal.absorb-requires-clause-rule
absorb-requires-clause-rule g c = merges _ _ _ _ (let e = c.requires.0.splits in omega (arith, e))

pub learn_as-requires-clause-rule : goal.learn_as-requires-clause-rule
learn_as-requires-clause-rule g c = learns _ _

pub returns-clause-splits : goal.returns-clause-splits
returns-clause-splits g c = omega arith
