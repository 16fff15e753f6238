use Rattle.std.proofs.Common.{◌+◌, ◌∷◌, ap, Ok, Err, arith, subst}
use Rattle.std.specs.Prelude.{Result}
use Rattle.std.proofs.lemmas.Result.{err_from_is_err_and}
use Rattle.vt_outside.specs.declared.answers.NoMemory.{NoMemory as Refusal}
use Rattle.vt_walk_decisions.specs.MachineTypes.crew.PassReport.{PassReport}
use Rattle.vt_walk_decisions.specs.Passes.{EndsPassRun}
use Rattle.vt_walk.specs.States.{walk_state}
use Rattle.vt_walk.specs.WalkInputs.{input_scene}
use Rattle.vt_walk.specs.DrawnBy.{IsDrawnBySome}
use Rattle.vt_walk.proofs.Advancing.{ran_anyhow, drawn_by_some}
use Rattle.vt_walk.proofs.Besides.{may_prepare_next, is_next_job, picture_left, line_left, pass_left, pass_ran}
use Rattle.vt_walk.specs.OutputFolders.{folder_of}
use Rattle.vt_walk.proofs.beside.write_beside.Goals as goal

pub run_and_write-ran-requires-clause-may : goal.run_and_write-ran-requires-clause-may
run_and_write-ran-requires-clause-may g c =
    let b = c.requires.stands.2 in
    may_prepare_next g.M.PassMachine.drawing (IsDrawnBySome g.M.PassMachine)
    g.met.M.PassMachine.shows_whole
    c.args.input.now b.known c.requires.stands.0 c.args.passed.now b.first
    (g.M.PassMachine.state c.args.machine.now) c.requires.stands.1 c.requires.input c.requires.goes_on c.requires.followed
    (walk_state (folder_of g.D.OutputFolder) c.args.input.now.names.store.now c.args.folder.now (b.kept ∷ (g.M.PassMachine.state c.args.machine.now).files)
    (g.O.Sink.held c.args.out.now) (g.O.Sink.faults c.args.out.now)) c.requires.stands.4 c.requires.stands.3

pub run_and_write-ran-requires-clause-job : goal.run_and_write-ran-requires-clause-job
run_and_write-ran-requires-clause-job g c =
    let b = c.requires.stands.2 in
    is_next_job g.M.PassMachine.drawing (IsDrawnBySome g.M.PassMachine)
    g.met.M.PassMachine.shows_whole
    c.args.input.now b.known c.requires.stands.0 c.args.passed.now b.first
    (g.M.PassMachine.state c.args.machine.now) c.requires.stands.1 c.requires.input c.requires.goes_on c.requires.followed
    (walk_state (folder_of g.D.OutputFolder) c.args.input.now.names.store.now c.args.folder.now (b.kept ∷ (g.M.PassMachine.state c.args.machine.now).files)
    (g.O.Sink.held c.args.out.now) (g.O.Sink.faults c.args.out.now)) c.requires.stands.4

pub returns-in_err-written-clause-ran : goal.returns-in_err-written-clause-ran
returns-in_err-written-clause-ran g c =
    let p = err_from_is_err_and c.from_residual.result c.from_residual.ensures.1 in
    λ number v b at. rw p.1 (picture_left g.M.PassMachine.drawing (IsDrawnBySome g.M.PassMachine)
    g.met.M.PassMachine.shows_whole
    c.args.input.now b.known number c.args.passed.now b.first
    (g.M.PassMachine.state c.args.machine.now) v c.requires.input c.requires.goes_on c.requires.followed
    (folder_of g.D.OutputFolder) c.args.input.now.names.store.now b.kept (g.O.Sink.held c.args.out.now) (g.O.Sink.faults c.args.out.now) c.args.folder.now
    c.run_and_write-ran.new.folder c.args.name.now c.args.bytes.now c.run_and_write-ran.result.1 (g.M.PassMachine.state c.run_and_write-ran.new.machine)
    c.requires.name c.requires.bytes c.run_and_write-ran.ensures.written
    c.run_and_write-ran.ensures.read at _ p.0 c.in_err-written.was p.2)

pub returns-in_err-put_picture_line-clause-ran : goal.returns-in_err-put_picture_line-clause-ran
returns-in_err-put_picture_line-clause-ran g c =
    let p = err_from_is_err_and c.from_residual-in_err-put_picture_line.result c.from_residual-in_err-put_picture_line.ensures.1 in
    λ number v b at. rw p.1 (line_left g.M.PassMachine.drawing (IsDrawnBySome g.M.PassMachine)
    g.met.M.PassMachine.shows_whole
    c.args.input.now b.known number c.args.passed.now b.first
    (g.M.PassMachine.state c.args.machine.now) v c.requires.input c.requires.goes_on c.requires.followed
    (folder_of g.D.OutputFolder) c.args.input.now.names.store.now b.kept (g.O.Sink.held c.args.out.now) (g.O.Sink.faults c.args.out.now) c.args.folder.now
    c.run_and_write-ran.new.folder c.args.name.now c.args.bytes.now c.run_and_write-ran.result.1 (g.M.PassMachine.state c.run_and_write-ran.new.machine)
    c.requires.name c.requires.bytes c.run_and_write-ran.ensures.written
    c.run_and_write-ran.ensures.read at _ c.in_ok-written.was (g.O.Sink.held c.put_picture_line.new.out) (g.O.Sink.faults c.put_picture_line.new.out)
    _ p.0 c.in_err-put_picture_line.ensures.part c.in_err-put_picture_line.ensures.faults
    (λ is. c.in_err-put_picture_line.ensures.failed (ap Err is)) p.2)

pub returns-in_err-report-clause-ran : goal.returns-in_err-report-clause-ran
returns-in_err-report-clause-ran g c =
    let p = err_from_is_err_and c.from_residual-in_err-report.result c.from_residual-in_err-report.ensures.1 in
    λ number v b at. rw p.1 (pass_left g.M.PassMachine.drawing (IsDrawnBySome g.M.PassMachine)
    g.met.M.PassMachine.shows_whole
    c.args.input.now b.known number c.args.passed.now b.first
    (g.M.PassMachine.state c.args.machine.now) v c.requires.input c.requires.goes_on c.requires.followed
    (folder_of g.D.OutputFolder) c.args.input.now.names.store.now b.kept (g.O.Sink.held c.args.out.now) (g.O.Sink.faults c.args.out.now) c.args.folder.now
    c.run_and_write-ran.new.folder c.args.name.now c.args.bytes.now c.run_and_write-ran.result.1 (g.M.PassMachine.state c.run_and_write-ran.new.machine)
    c.requires.name c.requires.bytes c.run_and_write-ran.ensures.written
    c.run_and_write-ran.ensures.read at _ c.in_ok-written.was (g.O.Sink.held c.put_picture_line.new.out) (g.O.Sink.faults c.put_picture_line.new.out)
    c.in_ok-put_picture_line.ensures.whole c.in_ok-put_picture_line.ensures.faults p.0 p.2)

pub returns-clause-ran : goal.returns-clause-ran
returns-clause-ran g c =
    let ends : EndsPassRun g.M.PassMachine.drawing (g.M.PassMachine.drawn c.run_and_write-ran.new.machine) (g.M.PassMachine.is_idle c.run_and_write-ran.new.machine)
    (record { scene = input_scene c.args.input.now; picture = c.args.passed.now.picture + 1; batch = c.args.passed.now.next_plan.plan.elements })
    (Ok c.in_ok-report.report) (g.M.PassMachine.state c.args.machine.now) (g.M.PassMachine.state c.run_and_write-ran.new.machine) =
    subst (λ (r : Result PassReport Refusal). EndsPassRun g.M.PassMachine.drawing (g.M.PassMachine.drawn c.run_and_write-ran.new.machine)
    (g.M.PassMachine.is_idle c.run_and_write-ran.new.machine)
    (record { scene = input_scene c.args.input.now; picture = c.args.passed.now.picture + 1; batch = c.args.passed.now.next_plan.plan.elements })
    r (g.M.PassMachine.state c.args.machine.now) (g.M.PassMachine.state c.run_and_write-ran.new.machine)) c.in_ok-report.was c.run_and_write-ran.ensures.ran in
    λ number v b at. pass_ran g.M.PassMachine.drawing (IsDrawnBySome g.M.PassMachine)
    g.met.M.PassMachine.shows_whole
    c.args.input.now b.known number c.args.passed.now b.first
    (g.M.PassMachine.state c.args.machine.now) v c.requires.input c.requires.goes_on c.requires.followed
    (folder_of g.D.OutputFolder) c.args.input.now.names.store.now b.kept (g.O.Sink.held c.args.out.now) (g.O.Sink.faults c.args.out.now) c.args.folder.now
    c.run_and_write-ran.new.folder c.args.name.now c.args.bytes.now c.run_and_write-ran.result.1 (g.M.PassMachine.state c.run_and_write-ran.new.machine)
    c.requires.name c.requires.bytes c.run_and_write-ran.ensures.written
    c.run_and_write-ran.ensures.read at _ c.in_ok-written.was (g.O.Sink.held c.put_picture_line.new.out) (g.O.Sink.faults c.put_picture_line.new.out)
    c.in_ok-put_picture_line.ensures.whole c.in_ok-put_picture_line.ensures.faults c.in_ok-report.report
    (ran_anyhow g.M.PassMachine.drawing (g.M.PassMachine.drawn c.run_and_write-ran.new.machine)
    (record { scene = input_scene c.args.input.now; picture = c.args.passed.now.picture + 1; batch = c.args.passed.now.next_plan.plan.elements })
    c.in_ok-report.report (g.M.PassMachine.state c.args.machine.now) (g.M.PassMachine.state c.run_and_write-ran.new.machine) ends.ran)
    (drawn_by_some g.M.PassMachine c.run_and_write-ran.new.machine
    (record { scene = input_scene c.args.input.now; picture = c.args.passed.now.picture + 1; batch = c.args.passed.now.next_plan.plan.elements })
    c.in_ok-report.report (g.M.PassMachine.state c.args.machine.now) ends.goes_on ends.ran)

pub returns-in_err-written-clause-kept : goal.returns-in_err-written-clause-kept
returns-in_err-written-clause-kept g c = record {
  same = c.run_and_write-ran.ensures.read.same;
  asked = c.run_and_write-ran.ensures.written.asked;
  faults = c.run_and_write-ran.ensures.written.faults;
  out_faults = omega arith;
}

pub returns-in_err-put_picture_line-clause-kept : goal.returns-in_err-put_picture_line-clause-kept
returns-in_err-put_picture_line-clause-kept g c = record {
  same = c.run_and_write-ran.ensures.read.same;
  asked = c.run_and_write-ran.ensures.written.asked;
  faults = c.run_and_write-ran.ensures.written.faults;
  out_faults = c.put_picture_line.ensures.faults;
}

pub returns-in_err-report-clause-kept : goal.returns-in_err-report-clause-kept
returns-in_err-report-clause-kept g c = record {
  same = c.run_and_write-ran.ensures.read.same;
  asked = c.run_and_write-ran.ensures.written.asked;
  faults = c.run_and_write-ran.ensures.written.faults;
  out_faults = c.put_picture_line.ensures.faults;
}

pub returns-clause-kept : goal.returns-clause-kept
returns-clause-kept g c = record {
  same = c.run_and_write-ran.ensures.read.same;
  asked = c.run_and_write-ran.ensures.written.asked;
  faults = c.run_and_write-ran.ensures.written.faults;
  out_faults = c.put_picture_line.ensures.faults;
}
