use Rattle.std.proofs.Common.{◌∷◌, arith, sym, subst, ap, Err}
use Rattle.std.proofs.lemmas.Result.{err_from_is_err_and}
use Rattle.vt_walk.specs.States.{walk_state}
use Rattle.vt_walk.specs.WalkInputs.{given_of}
use Rattle.vt_walk.specs.WalkSteps.{LeftByRefusal}
use Rattle.vt_walk.specs.DrawnBy.{IsDrawnBySome}
use Rattle.vt_walk.proofs.Rounds.{last_done, last_broke}
use Rattle.vt_walk.specs.OutputFolders.{folder_of}
use Rattle.vt_walk.proofs.walk_steps.walk_on.Goals as goal

pub returns-in_err-took-clause-walked : goal.returns-in_err-took-clause-walked
returns-in_err-took-clause-walked g c =
    let p = err_from_is_err_and c.from_residual.result c.from_residual.ensures.1 in
    λ b at. rw p.1 (subst (LeftByRefusal (IsDrawnBySome g.M.PassMachine)
    (given_of g.M.PassMachine.drawing c.args.input.now b.known) b.first
    (walk_state (folder_of g.D.OutputFolder) c.args.input.now.names.store.now c.take_steps.new.folder
    (b.kept ∷ (g.M.PassMachine.state c.take_steps.new.machine).files) (g.O.Sink.held c.take_steps.new.out)
    (g.O.Sink.faults c.take_steps.new.out))) (sym p.2) (c.in_err-took.ensures.walked b at))

pub returns-in_err-put_end_line-clause-walked : goal.returns-in_err-put_end_line-clause-walked
returns-in_err-put_end_line-clause-walked g c =
    let p = err_from_is_err_and c.from_residual-in_err-put_end_line.result c.from_residual-in_err-put_end_line.ensures.1 in
    λ b at. rw p.1 (last_broke (IsDrawnBySome g.M.PassMachine)
    (given_of g.M.PassMachine.drawing c.args.input.now b.known) b.first
    (walk_state (folder_of g.D.OutputFolder) c.args.input.now.names.store.now c.take_steps.new.folder
    (b.kept ∷ (g.M.PassMachine.state c.take_steps.new.machine).files) (g.O.Sink.held c.take_steps.new.out) (g.O.Sink.faults c.take_steps.new.out))
    c.in_ok-took.took.reads c.pictures.result
    (g.O.Sink.held c.put_end_line.new.out) (g.O.Sink.faults c.put_end_line.new.out) _ p.0 (c.in_ok-took.ensures.walked b at) c.pictures.ensures.value
    c.in_err-put_end_line.ensures.part c.in_err-put_end_line.ensures.faults (λ is. c.in_err-put_end_line.ensures.failed (ap Err is)) p.2)

pub returns-clause-walked : goal.returns-clause-walked
returns-clause-walked g c = λ b at. last_done (IsDrawnBySome g.M.PassMachine)
    (given_of g.M.PassMachine.drawing c.args.input.now b.known) b.first
    (walk_state (folder_of g.D.OutputFolder) c.args.input.now.names.store.now c.take_steps.new.folder (b.kept ∷ (g.M.PassMachine.state c.take_steps.new.machine).files)
    (g.O.Sink.held c.take_steps.new.out) (g.O.Sink.faults c.take_steps.new.out)) c.in_ok-took.took.reads c.pictures.result
    (g.O.Sink.held c.put_end_line.new.out) (g.O.Sink.faults c.put_end_line.new.out) (c.in_ok-took.ensures.walked b at) c.pictures.ensures.value
    c.in_ok-put_end_line.ensures.whole

pub returns-clause-counted : goal.returns-clause-counted
returns-clause-counted g c = c.in_ok-took.ensures.counted

pub returns-in_err-took-clause-kept : goal.returns-in_err-took-clause-kept
returns-in_err-took-clause-kept g c = c.take_steps.ensures.kept

pub returns-in_err-put_end_line-clause-kept : goal.returns-in_err-put_end_line-clause-kept
returns-in_err-put_end_line-clause-kept g c = record {
  same = c.take_steps.ensures.kept.same;
  asked = c.take_steps.ensures.kept.asked;
  faults = c.take_steps.ensures.kept.faults;
  out_faults = omega (arith, c.take_steps.ensures.kept.out_faults, c.put_end_line.ensures.faults);
}

pub returns-clause-kept : goal.returns-clause-kept
returns-clause-kept g c = record {
  same = c.take_steps.ensures.kept.same;
  asked = c.take_steps.ensures.kept.asked;
  faults = c.take_steps.ensures.kept.faults;
  out_faults = omega (arith, c.take_steps.ensures.kept.out_faults, c.put_end_line.ensures.faults);
}
