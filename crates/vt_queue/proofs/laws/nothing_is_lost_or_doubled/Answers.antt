use Rattle.vt_queue.proofs.OrderLemmas.{items_as_put, count_of, all_taken}
use Rattle.vt_queue.proofs.laws.nothing_is_lost_or_doubled.Goals as goal

pub returns : goal.returns
returns g c = record { items = items_as_put; count = count_of; all = all_taken }
