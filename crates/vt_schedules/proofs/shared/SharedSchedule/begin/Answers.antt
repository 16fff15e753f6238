use Rattle.vt_schedules.proofs.Taking.{first_split}
use Rattle.vt_schedules.proofs.Ways.{on_ok}
use Rattle.vt_schedules.proofs.shared.SharedSchedule.begin.Goals as goal

pub returns-clause-dealt : goal.returns-clause-dealt
returns-clause-dealt g c =
    on_ok c.put_rows.result (λ is height line samplers some are. first_split height line c.args.jobs.now c.put_rows.new.rows are is) c.put_rows.ensures.put
