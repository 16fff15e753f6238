use Rattle.vt_sampler.proofs.Sharing.{rows_shared}
use Rattle.vt_sampler.proofs.laws.samplers_share_the_rows.Goals as goal

pub returns : goal.returns
returns g c = rows_shared g.P.Filter.wants
