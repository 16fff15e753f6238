use Rattle.std.proofs.Common.{List, ap}
use Rattle.vt_evict.specs.PlanTypes.batches.Planned.{Planned}
use Rattle.vt_machine.specs.Jobs.{job_of}
use Rattle.vt_machine.proofs.Lent.{one_ready, all_ready, one_did, all_did}
use Rattle.vt_machine.proofs.machine.PassMachine.run.Goals as goal

pub work_with_crew-samplers-requires-clause-loaders : goal.work_with_crew-samplers-requires-clause-loaders
work_with_crew-samplers-requires-clause-loaders g c =
    all_ready g.Self.Loader.HandTask.ready _ _ _ _ c.shared.ensures (ap (λ (batch : List Planned). job_of c.args.shot.now batch) c.slice.ensures)
    c.detach_workers-loaders.result.0.elements c.detach_workers-loaders.ensures.loaders

pub work_with_crew-samplers-requires-clause-samplers : goal.work_with_crew-samplers-requires-clause-samplers
work_with_crew-samplers-requires-clause-samplers g c =
    all_ready g.Self.Sampler.HandTask.ready _ _ _ _ c.shared.ensures (ap (λ (batch : List Planned). job_of c.args.shot.now batch) c.slice.ensures)
    c.detach_workers-loaders.result.1.elements c.detach_workers-loaders.ensures.samplers

pub work_with_crew-samplers-requires-clause-streamer : goal.work_with_crew-samplers-requires-clause-streamer
work_with_crew-samplers-requires-clause-streamer g c =
    one_ready g.Self.Streamer.Task.ready _ _ _ _ c.shared.ensures (ap (λ (batch : List Planned). job_of c.args.shot.now batch) c.slice.ensures)
    c.detach_workers-loaders.result.2 c.detach_workers-loaders.ensures.streamer

pub reattach_workers-requires : goal.reattach_workers-requires
reattach_workers-requires g c =
    let shot = c.args.shot.now in
    let with = λ (batch : List Planned). job_of shot batch in
    let out = c.detach_workers-loaders.result in
    let done = c.work_with_crew-samplers in
    let same = ap with c.slice.ensures in
    g.met.Self.PassMachine.may_come_back (with c.args.batch.now.elements) c.args.self.now c.detach_workers-loaders.new.self
    out.0.elements done.new.loaders.elements out.1.elements done.result.elements out.2 done.new.streamer
    c.requires.ready c.requires.root c.requires.job c.detach_workers-loaders.ensures.detached
    done.ensures.loader_number done.ensures.sampler_number
    (all_did g.Self.Loader.HandTask.did _ _ _ _ c.shared.ensures same out.0.elements done.new.loaders.elements done.ensures.loaders)
    (all_did g.Self.Sampler.HandTask.did _ _ _ _ c.shared.ensures same out.1.elements done.result.elements done.ensures.samplers)
    (one_did g.Self.Streamer.Task.did _ _ _ _ c.shared.ensures same out.2 done.new.streamer done.ensures.streamer)

pub returns-clause-ends : goal.returns-clause-ends
returns-clause-ends g c =
    let shot = c.args.shot.now in
    let with = λ (batch : List Planned). job_of shot batch in
    let out = c.detach_workers-loaders.result in
    let done = c.work_with_crew-samplers in
    let same = ap with c.slice.ensures in
    (g.met.Self.PassMachine.has_run (with c.args.batch.now.elements) c.args.self.now c.detach_workers-loaders.new.self c.reattach_workers.new.self
    out.0.elements done.new.loaders.elements out.1.elements done.result.elements out.2 done.new.streamer c.reattach_workers.result
    c.requires.ready c.requires.root c.requires.job c.detach_workers-loaders.ensures.detached
    done.ensures.loader_number done.ensures.sampler_number
    (all_did g.Self.Loader.HandTask.did _ _ _ _ c.shared.ensures same out.0.elements done.new.loaders.elements done.ensures.loaders)
    (all_did g.Self.Sampler.HandTask.did _ _ _ _ c.shared.ensures same out.1.elements done.result.elements done.ensures.samplers)
    (one_did g.Self.Streamer.Task.did _ _ _ _ c.shared.ensures same out.2 done.new.streamer done.ensures.streamer) c.reattach_workers.ensures).0

pub returns-clause-held : goal.returns-clause-held
returns-clause-held g c =
    let shot = c.args.shot.now in
    let with = λ (batch : List Planned). job_of shot batch in
    let out = c.detach_workers-loaders.result in
    let done = c.work_with_crew-samplers in
    let same = ap with c.slice.ensures in
    (g.met.Self.PassMachine.has_run (with c.args.batch.now.elements) c.args.self.now c.detach_workers-loaders.new.self c.reattach_workers.new.self
    out.0.elements done.new.loaders.elements out.1.elements done.result.elements out.2 done.new.streamer c.reattach_workers.result
    c.requires.ready c.requires.root c.requires.job c.detach_workers-loaders.ensures.detached
    done.ensures.loader_number done.ensures.sampler_number
    (all_did g.Self.Loader.HandTask.did _ _ _ _ c.shared.ensures same out.0.elements done.new.loaders.elements done.ensures.loaders)
    (all_did g.Self.Sampler.HandTask.did _ _ _ _ c.shared.ensures same out.1.elements done.result.elements done.ensures.samplers)
    (one_did g.Self.Streamer.Task.did _ _ _ _ c.shared.ensures same out.2 done.new.streamer done.ensures.streamer) c.reattach_workers.ensures).1

pub returns-clause-refused : goal.returns-clause-refused
returns-clause-refused g c =
    g.met.Self.PassMachine.has_answered (job_of c.args.shot.now c.args.batch.now.elements) _ _ _ _ _ c.reattach_workers.result c.reattach_workers.ensures
