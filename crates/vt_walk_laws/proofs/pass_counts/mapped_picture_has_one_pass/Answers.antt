use Rattle.vt_walk_laws.proofs.PassBounds.{one_pass}
use Rattle.vt_walk_laws.proofs.pass_counts.mapped_picture_has_one_pass.Goals as goal

pub returns : goal.returns
returns c = one_pass
