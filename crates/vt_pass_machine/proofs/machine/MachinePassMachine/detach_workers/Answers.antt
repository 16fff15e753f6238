use Rattle.std.proofs.Common.{sym, ◌∙◌, refl, subst}
use Rattle.vt_loading.specs.Jobs.{job_of}
use Rattle.vt_loading.specs.LoaderPools.{IsAskedStream, AreLoadersOut}
use Rattle.vt_pass_pool.specs.declared.shared.OwnParts.{OwnParts}
use Rattle.vt_pass_pool.specs.declared.shared.PassShared.{PassShared}
use Rattle.vt_pass_machine.proofs.Idle.{ready_with, samplers_may, streamer_may}
use Rattle.vt_pass_machine.proofs.machine.MachinePassMachine.detach_workers.Goals as goal

pub detach-loaders-requires : goal.detach-loaders-requires
detach-loaders-requires g c =
    let m = c.args.self.now in
    let own = c.in-Some.own in
    let batch = c.args._batch.now.elements in
    let ready = ready_with g.F.File g.T.PageTable g.S.Schedule m own (sym c.replace-own.ensures.value ∙ c.in-Some.is) batch c.requires.ready in
    record {
      asked = (
        own.report,
        batch,
        subst (λ (x : PassShared (OwnParts _ _ _ _ _)).
            IsAskedStream g.F.File x.parts.queues own.answers own.report m.streams batch) (sym c.deref.ensures) ready.asked,
      );
    }

pub returns-clause-samplers : goal.returns-clause-samplers
returns-clause-samplers g c =
    samplers_may g.F.File g.T.PageTable g.S.Schedule c.args.self.now c.in-Some.own (sym c.replace-own.ensures.value ∙ c.in-Some.is)
    (job_of c.args._shot.now c.args._batch.now.elements) c.detach-samplers.result.elements c.requires.ready c.requires.job c.detach-samplers.ensures.out

pub returns-clause-streamer : goal.returns-clause-streamer
returns-clause-streamer g c =
    let m = c.args.self.now in
    let own = c.in-Some.own in
    let out = subst (λ (x : PassShared (OwnParts _ _ _ _ _)). AreLoadersOut g.F.File x.parts.queues m.streams c.detach-loaders.new.self own.answers
    c.detach-loaders.new.answers c.detach-loaders.result.elements) c.deref.ensures c.detach-loaders.ensures.out in
    streamer_may g.F.File g.T.PageTable g.S.Schedule m own (sym c.replace-own.ensures.value ∙ c.in-Some.is)
    (record own { answers = c.detach-loaders.new.answers }) c.args._batch.now.elements c.requires.ready refl out.dealt.passes.results

pub returns-clause-detached : goal.returns-clause-detached
returns-clause-detached g c = record {
  shared = refl;
  gone = c.replace-own.ensures.after;
  was = c.in-Some.own;
  there = sym c.replace-own.ensures.value ∙ c.in-Some.is;
  streamer_is = refl;
  loaders_out = subst (λ (x : PassShared (OwnParts _ _ _ _ _)). AreLoadersOut g.F.File x.parts.queues c.args.self.now.streams
      c.detach-loaders.new.self c.in-Some.own.answers c.detach-loaders.new.answers c.detach-loaders.result.elements) c.deref.ensures
      c.detach-loaders.ensures.out;
  samplers_are = c.detach-samplers.ensures.out;
  pool = c.detach-samplers.ensures.rest;
}
