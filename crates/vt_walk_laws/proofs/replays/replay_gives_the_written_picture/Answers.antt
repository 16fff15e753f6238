use Rattle.vt_walk.specs.DrawnBy.{IsDrawnBySome}
use Rattle.vt_walk_laws.proofs.Walked.{written_again}
use Rattle.vt_walk_laws.proofs.replays.replay_gives_the_written_picture.Goals as goal

pub returns : goal.returns
returns g c = λ under. written_again under (IsDrawnBySome g.M.PassMachine)
