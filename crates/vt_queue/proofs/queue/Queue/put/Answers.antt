use Rattle.std.proofs.Common.{arith}
use Rattle.vt_queue.proofs.Keeping.{puts, learns}
use Rattle.vt_queue.proofs.queue.Queue.put.Goals as goal

pub push_as-requires-clause-rule : goal.push_as-requires-clause-rule
push_as-requires-clause-rule g c = (puts _ _ _ _ (let e = c.requires.splits in omega (arith, e)), learns _ _)

pub returns-in-Err-clause-puts : goal.returns-in-Err-clause-puts
returns-in-Err-clause-puts g c = tt

pub returns-in-Err-clause-item : goal.returns-in-Err-clause-item
returns-in-Err-clause-item g c = c.in-Err.ensures.rule.0
