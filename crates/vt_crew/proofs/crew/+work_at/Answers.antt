use Rattle.std.proofs.Common.{refl}
use Rattle.vt_crew.proofs.JobLists.{last_done}
use Rattle.vt_crew.proofs.crew.+work_at.Goals as goal

pub returns-in-Ok-clause-did : goal.returns-in-Ok-clause-did
returns-in-Ok-clause-did g t c =
    last_done g.J.Work.did _ _ _ _ c.in-Some.job _ _ c.in-Some.ensures.items c.push_reserved-in-Ok.ensures.items c.work_at.ensures.did refl
    (c.take_back-job.ensures c.in-Some.job c.in-Ok.ensures)

pub returns-in-Err-clause-did : goal.returns-in-Err-clause-did
returns-in-Err-clause-did g t c =
    last_done g.J.Work.did _ _ _ _ c.in-Some.job _ c.in-Err.job c.in-Some.ensures.items c.push_reserved-in-Err.ensures.items
    c.work_at-in-Err.ensures.did c.in-Err.ensures c.work-in-Err.ensures
