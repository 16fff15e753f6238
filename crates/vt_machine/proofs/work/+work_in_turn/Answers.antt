use Rattle.vt_machine.specs.Jobs.{job_of}
use Rattle.vt_machine.proofs.Halves.{low_ready, high_ready, both_did}
use Rattle.vt_machine.proofs.work.+work_in_turn.Goals as goal

pub work_in_turn-requires-clause-ready : goal.work_in_turn-requires-clause-ready
work_in_turn-requires-clause-ready g t c κs within =
    low_ready (g.L.HandTask.ready c.args.shared.now (job_of c.args.shot.now c.args.batch.now)) _ _ _ c.split_at_mut-low.ensures.value c.requires.ready

pub work_in_turn-requires-2-clause-ready : goal.work_in_turn-requires-2-clause-ready
work_in_turn-requires-2-clause-ready g t c κs within =
    high_ready (g.L.HandTask.ready c.args.shared.now (job_of c.args.shot.now c.args.batch.now)) _ _ _ c.split_at_mut-low.ensures.value c.requires.ready

pub returns : goal.returns
returns g t c =
    record {
      did = both_did (g.L.HandTask.did c.args.shared.now (job_of c.args.shot.now c.args.batch.now)) _ _ _ _ c.work_in_turn-2.new.tasks
          c.split_at_mut-low.ensures.value c.work_in_turn.auto.tasks c.work_in_turn.ensures.did c.work_in_turn-2.ensures.did;
    }
