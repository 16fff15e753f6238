use Rattle.std.proofs.Common.{arith}
use Rattle.vt_queue.proofs.Keeping.{takes, learns, empty_at}
use Rattle.vt_queue.proofs.queue.Queue.take.Goals as goal

pub pop_as-requires-clause-rule : goal.pop_as-requires-clause-rule
pop_as-requires-clause-rule g c = (takes _ _ (let e = c.requires.splits in omega (arith, e)), learns _ _)

pub returns-clause-empty : goal.returns-clause-empty
returns-clause-empty g c = empty_at c.pop_as.result _ _ _ c.pop_as.ensures.rule
