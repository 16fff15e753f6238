use Rattle.vt_queue.proofs.OrderLemmas.{joined_shares, joined_puts, joined_takes}
use Rattle.vt_queue.proofs.laws.joined_pass_has_all.Goals as goal

pub returns : goal.returns
returns g c = record { shares = joined_shares; puts = joined_puts; takes = joined_takes }
