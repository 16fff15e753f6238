use Rattle.vt_walk.proofs.Agreeing.{may_be_run}
use Rattle.vt_walk_laws.proofs.runs.planned_batch_may_be_run.Goals as goal

pub returns : goal.returns
returns c = may_be_run
