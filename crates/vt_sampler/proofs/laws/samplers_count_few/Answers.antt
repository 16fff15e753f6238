use Rattle.vt_sampler.proofs.Sharing.{few_together}
use Rattle.vt_sampler.proofs.laws.samplers_count_few.Goals as goal

pub returns : goal.returns
returns g c = few_together g.P.Filter.wants g.met.P.Filter.wants_few
