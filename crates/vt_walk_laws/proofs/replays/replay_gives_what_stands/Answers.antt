use Rattle.vt_walk.specs.DrawnBy.{IsDrawnBySome}
use Rattle.vt_walk_laws.proofs.Walked.{standing_again}
use Rattle.vt_walk_laws.proofs.replays.replay_gives_what_stands.Goals as goal

pub returns : goal.returns
returns g c = λ under. standing_again under (IsDrawnBySome g.M.PassMachine)
