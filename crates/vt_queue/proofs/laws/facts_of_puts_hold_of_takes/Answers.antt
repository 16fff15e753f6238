use Rattle.vt_queue.proofs.OrderLemmas.{facts_of}
use Rattle.vt_queue.proofs.laws.facts_of_puts_hold_of_takes.Goals as goal

pub returns : goal.returns
returns g c = λ x. facts_of (g.F.ItemFact.holds x)
