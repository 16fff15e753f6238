use Rattle.vt_walk_decisions.specs.Jobs.{job_of}
use Rattle.vt_walk.proofs.Advancing.{read_for_job}
use Rattle.vt_walk.proofs.beside.run_and_write.Goals as goal

pub returns-clause-read : goal.returns-clause-read
returns-clause-read g c = read_for_job g.M.PassMachine.drawing _ _ (job_of c.args.shot.now c.args.batch.now.elements)
    (g.M.PassMachine.state c.args.machine.now) _ _ c.requires.job c.run_pass-ran.ensures.ran
