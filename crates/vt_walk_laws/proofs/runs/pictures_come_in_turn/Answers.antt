use Rattle.vt_walk.proofs.Stepping.{live_step, settled_step, first_step}
use Rattle.vt_walk_laws.proofs.runs.pictures_come_in_turn.Goals as goal

pub returns : goal.returns
returns c = record { live = live_step; settled = settled_step; begins = first_step }
