use Rattle.vt_walk.proofs.Stepping.{earlier_fit, unfit_first}
use Rattle.vt_walk_laws.proofs.runs.unfit_picture_ends_the_run.Goals as goal

pub returns : goal.returns
returns c = record { earlier = earlier_fit; first = unfit_first }
