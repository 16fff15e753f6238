use Rattle.std.proofs.Common.{refl}
use Rattle.vt_walk.proofs.Running.{run_kept, batch_is_lawful, batch_may_be_run, plan_most}
use Rattle.vt_walk.specs.Runs.{plan_after}
use Rattle.vt_walk_laws.proofs.runs.next_batch_may_be_run.Goals as goal

pub returns : goal.returns
returns c = record {
  lawful = λ w passes h run. batch_may_be_run w passes (plan_after w passes) run (run_kept w passes h run) refl;
  settles = λ w passes h run. batch_is_lawful w passes (plan_after w passes) run (run_kept w passes h run) refl;
  most = plan_most;
}
