use Rattle.vt_walk.proofs.Showing.{picture_drawn}
use Rattle.vt_walk_laws.proofs.runs.drawn_picture_is_the_runs.Goals as goal

pub returns : goal.returns
returns g c = λ m w p passes. picture_drawn w p passes g.M.PassMachine.drawing (g.M.PassMachine.drawn m)
