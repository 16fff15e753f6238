use Rattle.std.proofs.Common.{◌≡◌, length, rules}
use Rattle.vt_machine.specs.Jobs.{job_of}
use Rattle.vt_machine.specs.All.{AllDid}
use Rattle.vt_machine.proofs.Halves.{both_did}
use Rattle.vt_machine.proofs.work.+fn-work_all-join_mut+arg2+fn-work_all-join_mut+arg3+work_all.Goals as goal

pub returns : goal.returns
returns g t c =
    let did = g.L.HandTask.did c.args.shared.now (job_of c.args.shot.now c.args.batch.now) in
    let a = c.split_at_mut-low.result.0.now in
    let b = c.split_at_mut-low.result.1.now in
    let low : AllDid did a c.low-1.given.0 = search rules in
    let high : AllDid did b c.high-1.given.0 = search rules in
    let same : length c.low-1.given.0 ≡ length a = search rules in
    record { did = both_did did c.args.tasks.now a b c.low-1.given.0 c.high-1.given.0 c.split_at_mut-low.ensures.value same low high }
