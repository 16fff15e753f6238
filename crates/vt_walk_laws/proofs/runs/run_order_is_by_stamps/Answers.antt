use Rattle.vt_walk_laws.proofs.Stamping.{stamps_some, stamps_one, order_is_stamped}
use Rattle.vt_walk_laws.proofs.runs.run_order_is_by_stamps.Goals as goal

pub returns : goal.returns
returns c = record { some = stamps_some; one = stamps_one; order = order_is_stamped }
