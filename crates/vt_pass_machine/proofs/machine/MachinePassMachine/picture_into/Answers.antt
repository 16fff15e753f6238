use Rattle.std.specs.Arc.{arc_value}
use Rattle.vt_pass_machine.proofs.Idle.{idle_sides}
use Rattle.vt_pass_machine.proofs.machine.MachinePassMachine.picture_into.Goals as goal

pub picture_into-requires-clause-depth : goal.picture_into-requires-clause-depth
picture_into-requires-clause-depth g c =
    let m = c.args.self.now in
    (idle_sides g.F.File g.T.PageTable (arc_value m.shared).parts.table m.streamer m.streams m.pool c.requires).0

pub picture_into-requires-clause-sides : goal.picture_into-requires-clause-sides
picture_into-requires-clause-sides g c =
    let m = c.args.self.now in
    (idle_sides g.F.File g.T.PageTable (arc_value m.shared).parts.table m.streamer m.streams m.pool c.requires).1
