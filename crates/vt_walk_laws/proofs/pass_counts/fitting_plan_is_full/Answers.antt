use Rattle.vt_walk_laws.proofs.Loading.{plan_is_full}
use Rattle.vt_walk_laws.proofs.pass_counts.fitting_plan_is_full.Goals as goal

pub returns : goal.returns
returns c = plan_is_full
