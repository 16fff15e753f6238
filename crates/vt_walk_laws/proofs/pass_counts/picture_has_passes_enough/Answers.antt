use Rattle.vt_walk_laws.proofs.PassBounds.{enough_passes}
use Rattle.vt_walk_laws.proofs.pass_counts.picture_has_passes_enough.Goals as goal

pub returns : goal.returns
returns c = enough_passes
