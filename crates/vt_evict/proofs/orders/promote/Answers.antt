use Rattle.vt_evict.proofs.OrderLemmas.{keys-promoted}
use Rattle.vt_evict.proofs.orders.promote.Goals as goal

pub returns-clause-order : goal.returns-clause-order
returns-clause-order c = rw c.promote.ensures.entries (keys-promoted c.args.page c.args.order.now.entries c.len-valid.ensures.valid.0 c.requires)
