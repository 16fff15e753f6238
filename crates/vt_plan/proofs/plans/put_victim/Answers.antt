use Rattle.std.proofs.Common.{rules}
use Rattle.vt_plan.proofs.plans.put_victim.Goals as goal

pub returns-then-contains-clause-put : goal.returns-then-contains-clause-put
returns-then-contains-clause-put c = search rules

pub returns-clause-put : goal.returns-clause-put
returns-clause-put c = search rules
