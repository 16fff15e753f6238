use Rattle.vt_queue.proofs.OrderLemmas.{one_place, first_taken, taken_first}
use Rattle.vt_queue.proofs.laws.first_in_is_first_out.Goals as goal

pub returns : goal.returns
returns g c = record { places = one_place; first = first_taken; taken = taken_first }
