use Rattle.vt_walk.proofs.Asking.{planned_more, lost_more, losses_more, reads_more}
use Rattle.vt_walk_laws.proofs.runs.run_places_add_up.Goals as goal

pub returns : goal.returns
returns c = record { planned = planned_more; lost = lost_more; losses = losses_more; reads = reads_more }
