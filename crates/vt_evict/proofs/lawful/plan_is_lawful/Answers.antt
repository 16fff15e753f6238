use Rattle.vt_evict.proofs.LawfulLemmas.{plan_lawful, plan_count}
use Rattle.vt_evict.proofs.lawful.plan_is_lawful.Goals as goal

pub returns : goal.returns
returns c = record { lawful = plan_lawful; most = plan_count }
