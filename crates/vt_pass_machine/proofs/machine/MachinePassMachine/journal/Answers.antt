use Rattle.std.specs.Arc.{arc_value}
use Rattle.vt_loading.proofs.Ready.{part_is_there}
use Rattle.vt_pass_machine.specs.Machines.{IsIdleBy, IsReadyBy}
use Rattle.vt_pass_machine.proofs.machine.MachinePassMachine.journal.Goals as goal

pub unreachable-requires : goal.unreachable-requires
unreachable-requires g c =
    let m = c.args.self.now in
    part_is_there (λ t. IsIdleBy g.F.File g.T.PageTable (arc_value m.shared).parts.table t m.streams m.pool)
    (λ t. IsReadyBy g.F.File g.T.PageTable g.S.Schedule (arc_value m.shared).parts.table (arc_value m.shared).parts.rows (arc_value m.shared).parts.queues t m.streams m.pool) m.streamer c.in-None.is
    (λ no. no) (λ batch no. no) c.requires
