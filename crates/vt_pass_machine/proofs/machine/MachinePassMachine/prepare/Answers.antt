use Rattle.vt_loading.proofs.StoreRooms.{always_ok, always_err}
use Rattle.vt_pass_machine.proofs.Idle.{machine_untouched, machine_spent, idle_with, can_prepare}
use Rattle.vt_pass_machine.proofs.machine.MachinePassMachine.prepare.Goals as goal

pub prepare_shared-requires-clause-idle : goal.prepare_shared-requires-clause-idle
prepare_shared-requires-clause-idle g c = idle_with g.F.File g.T.PageTable c.args.self.now c.in-Some.own c.in-Some.is c.requires.idle

pub prepare_shared-requires-clause-root : goal.prepare_shared-requires-clause-root
prepare_shared-requires-clause-root g c =
    (can_prepare g.F.File g.T.PageTable c.args.self.now c.in-Some.own c.in-Some.is c.requires.idle c.args.batch.now.elements c.requires.may).root

pub prepare_shared-requires-clause-lawful : goal.prepare_shared-requires-clause-lawful
prepare_shared-requires-clause-lawful g c =
    (can_prepare g.F.File g.T.PageTable c.args.self.now c.in-Some.own c.in-Some.is c.requires.idle c.args.batch.now.elements c.requires.may).lawful

pub prepare_shared-requires-clause-few : goal.prepare_shared-requires-clause-few
prepare_shared-requires-clause-few g c =
    (can_prepare g.F.File g.T.PageTable c.args.self.now c.in-Some.own c.in-Some.is c.requires.idle c.args.batch.now.elements c.requires.may).few

pub prepare_shared-requires-clause-early : goal.prepare_shared-requires-clause-early
prepare_shared-requires-clause-early g c =
    (can_prepare g.F.File g.T.PageTable c.args.self.now c.in-Some.own c.in-Some.is c.requires.idle c.args.batch.now.elements c.requires.may).early

pub returns-clause-untouched : goal.returns-clause-untouched
returns-clause-untouched g c =
    let e = c.prepare_shared.ensures in
    always_ok c.prepare_shared.result (machine_untouched g.F.File g.T.PageTable c.args.self.now c.in-Some.own c.prepare_shared.new.own
    c.prepare_shared.new.streams c.prepare_shared.new.pool c.in-Some.is e.still.frames e.still.journal e.streams e.sides)

pub returns-clause-refused : goal.returns-clause-refused
returns-clause-refused g c =
    let e = c.prepare_shared.ensures in
    always_err c.prepare_shared.result (machine_spent g.F.File g.T.PageTable c.args.self.now c.in-Some.own c.prepare_shared.new.own
    c.prepare_shared.new.streams c.prepare_shared.new.pool c.in-Some.is e.still.frames e.still.journal e.streams e.sides)
