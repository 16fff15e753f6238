use Rattle.vt_walk_laws.proofs.PassBounds.{few_passes}
use Rattle.vt_walk_laws.proofs.pass_counts.picture_has_few_passes.Goals as goal

pub returns : goal.returns
returns c = few_passes
