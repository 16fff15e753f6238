use Rattle.vt_evict.proofs.OrderLemmas.{keys-remove}
use Rattle.vt_evict.proofs.orders.remove.Goals as goal

pub returns-clause-order : goal.returns-clause-order
returns-clause-order c = rw c.pop.ensures.entries (keys-remove c.args.page c.args.order.now.entries c.len-valid.ensures.valid.0)
