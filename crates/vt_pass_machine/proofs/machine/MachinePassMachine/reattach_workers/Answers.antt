use Rattle.std.proofs.Common.{sym, subst}
use Rattle.vt_loading.specs.Jobs.{job_of}
use Rattle.vt_pass_pool.specs.declared.shared.OwnParts.{OwnParts}
use Rattle.vt_pass_pool.specs.declared.shared.PassShared.{PassShared}
use Rattle.vt_pass_machine.specs.Machines.{MayFinish}
use Rattle.vt_pass_machine.proofs.Finishing.{finished, ends_with}
use Rattle.vt_pass_machine.proofs.machine.MachinePassMachine.reattach_workers.Goals as goal

pub end_pass-report-requires : goal.end_pass-report-requires
end_pass-report-requires g c =
    let m = c.args.self.now in (
      c.requires.0,
      subst (λ (x : PassShared (OwnParts _ _ _ _ _)). MayFinish g.F.File g.T.PageTable g.S.Schedule g.P.Filter x.parts.table x.parts.rows x.parts.queues
          m.streams m.pool (job_of c.args.shot.now c.args.batch.now.elements) c.args.loaders.elements c.args.samplers.elements c.args.streamer c.requires.0)
          (sym c.deref.ensures) c.requires.1.may,
    )

pub returns : goal.returns
returns g c =
    let m = c.args.self.now in
    let parts = c.deref.result.now.parts in
    let e = c.end_pass-report.ensures in
    let job = job_of c.args.shot.now c.args.batch.now.elements in (
      e.refused,
      λ b out.
          let may = subst (λ (x : PassShared (OwnParts _ _ _ _ _)). MayFinish g.F.File g.T.PageTable g.S.Schedule g.P.Filter x.parts.table
          x.parts.rows x.parts.queues m.streams m.pool job c.args.loaders.elements c.args.samplers.elements c.args.streamer b) (sym c.deref.ensures)
          out.may in
          let done = finished g.F.File g.T.PageTable g.S.Schedule g.P.Filter g.met.P.Filter.is_under parts.table parts.rows parts.queues m.streams
          c.end_pass-report.new.streams m.pool c.end_pass-report.new.pool job c.args.loaders.elements c.args.samplers.elements c.args.streamer
          c.end_pass-report.new.own b may (e.ended b may) e.still e.own e.pool g.met.T.PageTable.came_within g.met.T.PageTable.later_none _
          c.replace-gone.ensures.after c.end_pass-report.result e.went_on e.drawn e.sound e.events e.losses in (
            ends_with g.F.File g.T.PageTable (λ i. (c.deref.ensures i).parts.table) _ _ _ done.0,
            done.1,
          ),
    )
