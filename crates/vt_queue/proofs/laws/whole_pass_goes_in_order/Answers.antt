use Rattle.vt_queue.proofs.OrderLemmas.{puts_last, takes_next, takes_first}
use Rattle.vt_queue.proofs.laws.whole_pass_goes_in_order.Goals as goal

pub returns : goal.returns
returns g c = record { puts = puts_last; takes = takes_next; first = takes_first }
