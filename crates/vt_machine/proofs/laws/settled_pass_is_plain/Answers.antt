use Rattle.vt_machine.proofs.Settled.{settled}
use Rattle.vt_machine.proofs.laws.settled_pass_is_plain.Goals as goal

pub returns : goal.returns
returns g c = λ m. settled g.M.PassMachine.drawing (g.M.PassMachine.drawn m)
    g.met.M.PassMachine.shows_whole
