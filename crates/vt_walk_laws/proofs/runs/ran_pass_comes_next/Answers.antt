use Rattle.vt_walk.proofs.Nexts.{comes_next, journal_grown}
use Rattle.vt_walk_laws.proofs.runs.ran_pass_comes_next.Goals as goal

pub returns : goal.returns
returns g c = record {
  next = λ m. comes_next g.M.PassMachine.drawing (g.M.PassMachine.drawn m);
  journal = λ m. journal_grown g.M.PassMachine.drawing (g.M.PassMachine.drawn m);
}
