use Rattle.vt_queue.proofs.OrderLemmas.{order_of, known_of, full_of}
use Rattle.vt_queue.proofs.laws.whole_pass_knows_the_queue.Goals as goal

pub returns : goal.returns
returns g c = record { order = order_of; known = known_of; full = full_of }
