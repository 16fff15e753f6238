use Rattle.std.proofs.Common.{length}
use Rattle.vt_crew.proofs.crew.+work_at.Given as goal

abbrev pub decreases-work_at : goal.decreases-work_at
decreases-work_at g l = length l.jobs.now.items
