use Rattle.std.proofs.Common.{Bool, ◌∷◌, inl, refl, subst, ap, Err, arith}
use Rattle.std.specs.Prelude.{MatchBool}
use Rattle.std.proofs.lemmas.Result.{err_from_is_err_and}
use Rattle.vt_walk.specs.Walks.{names_of}
use Rattle.vt_walk.specs.States.{walk_state}
use Rattle.vt_walk.specs.WalkInputs.{input_scene}
use Rattle.vt_walk.specs.DrawnBy.{IsDrawnBySome}
use Rattle.vt_walk_decisions.specs.Judging.{IsEnd}
use Rattle.vt_walk.proofs.Ending.{same_picture, next_picture, picture_broke, line_broke}
use Rattle.vt_walk.proofs.Going.{room_left}
use Rattle.vt_walk.proofs.Keeping.{kept_here}
use Rattle.vt_walk.specs.OutputFolders.{folder_of}
use Rattle.vt_walk.proofs.walk_steps.end_step.Goals as goal

pub returns-then-not-is_finished-clause-ended : goal.returns-then-not-is_finished-clause-ended
returns-then-not-is_finished-clause-ended g c =
    λ number v b at. same_picture g.M.PassMachine.drawing (IsDrawnBySome g.M.PassMachine) g.met.M.PassMachine.shows_whole
    (input_scene c.args.input.now)
    c.args.input.now.settings
    c.args.input.now.mode b.known (names_of c.args.input.now.names)
    number c.args.passed b.first (g.M.PassMachine.state c.args.machine.now) v
    (walk_state (folder_of g.D.OutputFolder) c.args.input.now.names.store.now c.args.folder.now (b.kept ∷ (g.M.PassMachine.state c.args.machine.now).files)
    (g.O.Sink.held c.args.out.now) (g.O.Sink.faults c.args.out.now))
    at c.requires.goes_on.none_lost (room_left c.args.input.now c.args.passed c.requires.input c.requires.goes_on)
    (subst (λ (b : Bool). MatchBool b (IsEnd c.args.input.now.mode c.args.passed.loads_nothing c.args.passed.next_plan.plan.elements)
    (IsEnd c.args.input.now.mode c.args.passed.loads_nothing c.args.passed.next_plan.plan.elements → ⊥)) c.if-not-is_finished.true c.is_finished.ensures)

pub write_picture-requires-clause-few : goal.write_picture-requires-clause-few
write_picture-requires-clause-few g c =
    let i = c.requires.stands.3.passed.inside in let e = c.requires.stands.3.passed.picture in
    let few = c.requires.input.pictures in omega (arith, i, e, few)

pub returns-in_err-write_picture-clause-ended : goal.returns-in_err-write_picture-clause-ended
returns-in_err-write_picture-clause-ended g c =
    let p = err_from_is_err_and c.from_residual.result c.from_residual.ensures.1 in
    λ number v b at. rw p.1 (picture_broke g.M.PassMachine.drawing
    (IsDrawnBySome g.M.PassMachine) g.met.M.PassMachine.shows_whole (input_scene c.args.input.now) c.args.input.now.settings
    c.args.input.now.mode b.known (names_of c.args.input.now.names)
    number c.args.passed b.first (g.M.PassMachine.state c.args.machine.now) v c.args.input.now.names.store.now b.kept
    (g.D.OutputFolder.files c.args.folder.now) (g.D.OutputFolder.files c.write_picture.new.folder)
    (g.D.OutputFolder.asked c.args.folder.now) (g.D.OutputFolder.asked c.write_picture.new.folder) (g.D.OutputFolder.faults c.args.folder.now)
    (g.D.OutputFolder.faults c.write_picture.new.folder)
    (g.O.Sink.held c.args.out.now) (g.O.Sink.held c.args.out.now) (g.O.Sink.faults c.args.out.now) (g.O.Sink.faults c.args.out.now)
    (g.M.PassMachine.state c.args.machine.now).files (inl refl) _ p.0 at c.requires.goes_on.none_lost (room_left c.args.input.now c.args.passed c.requires.input c.requires.goes_on)
    (subst (λ (b : Bool). MatchBool b (IsEnd c.args.input.now.mode c.args.passed.loads_nothing c.args.passed.next_plan.plan.elements)
    (IsEnd c.args.input.now.mode c.args.passed.loads_nothing c.args.passed.next_plan.plan.elements
    → ⊥)) c.if-not-is_finished.false c.is_finished.ensures) c.in_err-write_picture.ensures.part refl c.in_err-write_picture.ensures.asked
    c.in_err-write_picture.ensures.faults (omega arith)
    (λ is. c.in_err-write_picture.ensures.failed (ap Err is)) p.2)

pub returns-in_err-put_picture_line-clause-ended : goal.returns-in_err-put_picture_line-clause-ended
returns-in_err-put_picture_line-clause-ended g c =
    let p = err_from_is_err_and c.from_residual-in_err-put_picture_line.result c.from_residual-in_err-put_picture_line.ensures.1 in
    λ number v b at. rw p.1 (line_broke g.M.PassMachine.drawing
    (IsDrawnBySome g.M.PassMachine) g.met.M.PassMachine.shows_whole (input_scene c.args.input.now) c.args.input.now.settings
    c.args.input.now.mode b.known (names_of c.args.input.now.names)
    number c.args.passed b.first (g.M.PassMachine.state c.args.machine.now) v c.args.input.now.names.store.now b.kept
    (g.D.OutputFolder.files c.args.folder.now) (g.D.OutputFolder.files c.write_picture.new.folder)
    (g.D.OutputFolder.asked c.args.folder.now) (g.D.OutputFolder.asked c.write_picture.new.folder) (g.D.OutputFolder.faults c.args.folder.now)
    (g.D.OutputFolder.faults c.write_picture.new.folder)
    (g.O.Sink.held c.args.out.now) (g.O.Sink.held c.put_picture_line.new.out) (g.O.Sink.faults c.args.out.now) (g.O.Sink.faults c.put_picture_line.new.out)
    (g.M.PassMachine.state c.args.machine.now).files (inl refl) _ p.0 at c.requires.goes_on.none_lost (room_left c.args.input.now c.args.passed c.requires.input c.requires.goes_on)
    (subst (λ (b : Bool). MatchBool b (IsEnd c.args.input.now.mode c.args.passed.loads_nothing c.args.passed.next_plan.plan.elements)
    (IsEnd c.args.input.now.mode c.args.passed.loads_nothing c.args.passed.next_plan.plan.elements
    → ⊥)) c.if-not-is_finished.false c.is_finished.ensures) c.in_ok-write_picture.ensures.whole c.in_err-put_picture_line.ensures.part
    c.in_ok-write_picture.ensures.asked c.in_ok-write_picture.ensures.faults
    c.in_err-put_picture_line.ensures.faults (λ is. c.in_err-put_picture_line.ensures.failed (ap Err is)) p.2)

pub overflow_add-result : goal.overflow_add-result
overflow_add-result g c =
    let i = c.requires.stands.3.passed.inside in let e = c.requires.stands.3.passed.picture in
    let few = c.requires.input.pictures in omega (arith, i, e, few)

pub returns-clause-ended : goal.returns-clause-ended
returns-clause-ended g c = λ number v b at. next_picture g.M.PassMachine.drawing
    (IsDrawnBySome g.M.PassMachine) g.met.M.PassMachine.shows_whole (input_scene c.args.input.now) c.args.input.now.settings c.args.input.now.mode
    b.known (names_of c.args.input.now.names)
    number c.args.passed b.first (g.M.PassMachine.state c.args.machine.now) v c.args.input.now.names.store.now b.kept
    (g.D.OutputFolder.files c.args.folder.now) (g.D.OutputFolder.files c.write_picture.new.folder)
    (g.D.OutputFolder.asked c.args.folder.now) (g.D.OutputFolder.asked c.write_picture.new.folder) (g.D.OutputFolder.faults c.args.folder.now)
    (g.D.OutputFolder.faults c.write_picture.new.folder)
    (g.O.Sink.held c.args.out.now) (g.O.Sink.held c.put_picture_line.new.out) (g.O.Sink.faults c.args.out.now) (g.O.Sink.faults c.put_picture_line.new.out)
    at c.requires.goes_on.none_lost (room_left c.args.input.now c.args.passed c.requires.input c.requires.goes_on)
    (subst (λ (b : Bool). MatchBool b (IsEnd c.args.input.now.mode c.args.passed.loads_nothing c.args.passed.next_plan.plan.elements)
    (IsEnd c.args.input.now.mode c.args.passed.loads_nothing c.args.passed.next_plan.plan.elements
    → ⊥)) c.if-not-is_finished.false c.is_finished.ensures) c.in_ok-write_picture.ensures.whole c.in_ok-put_picture_line.ensures.whole
    c.in_ok-write_picture.ensures.asked c.in_ok-write_picture.ensures.faults
    c.in_ok-put_picture_line.ensures.faults c.new.result c.new.ensures

pub returns-then-not-is_finished-clause-kept : goal.returns-then-not-is_finished-clause-kept
returns-then-not-is_finished-clause-kept g c = kept_here _

pub returns-in_err-write_picture-clause-kept : goal.returns-in_err-write_picture-clause-kept
returns-in_err-write_picture-clause-kept g c = record {
  same = record { names = refl; all_known = refl };
  asked = c.write_picture.ensures.asked;
  faults = c.write_picture.ensures.faults;
  out_faults = omega arith;
}

pub returns-in_err-put_picture_line-clause-kept : goal.returns-in_err-put_picture_line-clause-kept
returns-in_err-put_picture_line-clause-kept g c = record {
  same = record { names = refl; all_known = refl };
  asked = c.write_picture.ensures.asked;
  faults = c.write_picture.ensures.faults;
  out_faults = c.put_picture_line.ensures.faults;
}

pub returns-clause-kept : goal.returns-clause-kept
returns-clause-kept g c = record {
  same = record { names = refl; all_known = refl };
  asked = c.write_picture.ensures.asked;
  faults = c.write_picture.ensures.faults;
  out_faults = c.put_picture_line.ensures.faults;
}
