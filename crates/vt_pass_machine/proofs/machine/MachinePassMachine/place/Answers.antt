use Rattle.std.proofs.Common.{sym, subst}
use Rattle.vt_pass_pool.specs.declared.shared.OwnParts.{OwnParts}
use Rattle.vt_pass_pool.specs.declared.shared.PassShared.{PassShared}
use Rattle.vt_pass_machine.specs.Machines.{HasPlaced}
use Rattle.vt_pass_machine.proofs.Idle.{machine_placed, idle_with, can_place}
use Rattle.vt_pass_machine.proofs.machine.MachinePassMachine.place.Goals as goal

pub place_page-requires-clause-of : goal.place_page-requires-clause-of
place_page-requires-clause-of g c =
    subst (λ (x : PassShared (OwnParts _ _ _ _ _)). g.T.PageTable.is_of x.parts.table c.in-Some.own.writer) (sym c.deref.ensures)
    (idle_with g.F.File g.T.PageTable c.args.self.now c.in-Some.own c.in-Some.is c.requires.idle).fit.of

pub place_page-requires-clause-page : goal.place_page-requires-clause-page
place_page-requires-clause-page g c =
    (can_place g.F.File g.T.PageTable c.args.self.now c.in-Some.own c.in-Some.is c.requires.idle c.args.page c.args.frame c.args.tile.now
    c.requires.may).page_inside

pub place_page-requires-clause-frame : goal.place_page-requires-clause-frame
place_page-requires-clause-frame g c =
    (can_place g.F.File g.T.PageTable c.args.self.now c.in-Some.own c.in-Some.is c.requires.idle c.args.page c.args.frame c.args.tile.now
    c.requires.may).frame_inside

pub place_page-requires-clause-next : goal.place_page-requires-clause-next
place_page-requires-clause-next g c =
    (can_place g.F.File g.T.PageTable c.args.self.now c.in-Some.own c.in-Some.is c.requires.idle c.args.page c.args.frame c.args.tile.now
    c.requires.may).next

pub place_page-requires-clause-early : goal.place_page-requires-clause-early
place_page-requires-clause-early g c =
    (can_place g.F.File g.T.PageTable c.args.self.now c.in-Some.own c.in-Some.is c.requires.idle c.args.page c.args.frame c.args.tile.now
    c.requires.may).early

pub place_page-requires-clause-depth : goal.place_page-requires-clause-depth
place_page-requires-clause-depth g c =
    (can_place g.F.File g.T.PageTable c.args.self.now c.in-Some.own c.in-Some.is c.requires.idle c.args.page c.args.frame c.args.tile.now
    c.requires.may).depth

pub place_page-requires-clause-full : goal.place_page-requires-clause-full
place_page-requires-clause-full g c =
    (can_place g.F.File g.T.PageTable c.args.self.now c.in-Some.own c.in-Some.is c.requires.idle c.args.page c.args.frame c.args.tile.now
    c.requires.may).full

pub returns-clause-idle : goal.returns-clause-idle
returns-clause-idle g c =
    machine_placed g.F.File g.T.PageTable c.args.self.now c.in-Some.own c.place_page.new.own c.args.page c.args.frame c.args.tile.now c.in-Some.is
    c.requires.idle c.requires.may (subst (λ (x : PassShared (OwnParts _ _ _ _ _)).
    HasPlaced g.T.PageTable x.parts.table c.args.page c.args.tile.now c.in-Some.own c.place_page.new.own) c.deref.ensures c.place_page.ensures.placed)
