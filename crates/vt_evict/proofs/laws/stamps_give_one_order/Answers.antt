use Rattle.vt_evict.proofs.StampRules.{order_one}
use Rattle.vt_evict.proofs.laws.stamps_give_one_order.Goals as goal

pub returns : goal.returns
returns c = order_one
