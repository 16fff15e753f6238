use Rattle.std.proofs.Common.{◌+◌, ◌∷◌, Bool, sym, subst}
use Rattle.std.specs.Prelude.{MatchBool}
use Rattle.std.proofs.lemmas.Result.{err_from_is_err_and}
use Rattle.vt_walk_decisions.specs.Judging.{IsFollowed}
use Rattle.vt_walk.specs.States.{walk_state}
use Rattle.vt_walk.specs.WalkInputs.{given_of}
use Rattle.vt_walk.specs.WalkSteps.{LeftByRefusal}
use Rattle.vt_walk.specs.DrawnBy.{IsDrawnBySome}
use Rattle.vt_walk.specs.WalkEffects.{state_by}
use Rattle.vt_walk.proofs.Aheads.{may_turn, next_stands}
use Rattle.vt_walk.proofs.Passing.{pass_broke}
use Rattle.vt_walk.specs.OutputFolders.{folder_of}
use Rattle.vt_walk.proofs.walk_steps.go_on.Goals as goal

pub draw_beside-requires-clause-followed : goal.draw_beside-requires-clause-followed
draw_beside-requires-clause-followed g c = subst (λ (b : Bool). MatchBool b (IsFollowed c.args.input.now c.args.passed) (Unit {0}))
    c.if-is_written_beside.true c.is_written_beside.ensures

pub draw_next-requires-clause-may : goal.draw_next-requires-clause-may
draw_next-requires-clause-may g c =
    let b = c.requires.stands.0 in
    let s = c.in_ok-step.ensures.ended c.args.number c.args.recency.now b c.requires.stands.1 in (
      b.known,
      s.run,
      may_turn (IsDrawnBySome g.M.PassMachine) (given_of g.M.PassMachine.drawing c.args.input.now b.known) b.first (c.args.number + 1)
          c.in_ok-step.step
          (walk_state (folder_of g.D.OutputFolder) c.args.input.now.names.store.now c.end_step.new.folder (b.kept ∷ (g.M.PassMachine.state c.args.machine.now).files)
          (g.O.Sink.held c.end_step.new.out) (g.O.Sink.faults c.end_step.new.out)) (g.M.PassMachine.state c.args.machine.now) c.args.recency.now s,
    )

pub returns-in_err-step-clause-taken : goal.returns-in_err-step-clause-taken
returns-in_err-step-clause-taken g c =
    let p = err_from_is_err_and c.from_residual.result c.from_residual.ensures.1 in
    λ b at. rw p.1 (subst (LeftByRefusal (IsDrawnBySome g.M.PassMachine)
    (given_of g.M.PassMachine.drawing c.args.input.now b.known) b.first
    (walk_state (folder_of g.D.OutputFolder) c.args.input.now.names.store.now c.end_step.new.folder (b.kept ∷ (g.M.PassMachine.state c.args.machine.now).files)
    (g.O.Sink.held c.end_step.new.out) (g.O.Sink.faults c.end_step.new.out))) (sym p.2)
    (c.in_err-step.ensures.ended c.args.number c.args.recency.now b at))

pub returns-in_err-next-clause-taken : goal.returns-in_err-next-clause-taken
returns-in_err-next-clause-taken g c =
    let p = err_from_is_err_and c.from_residual-in_err-next.result c.from_residual-in_err-next.ensures.1 in
    λ b at. rw p.1 (pass_broke (IsDrawnBySome g.M.PassMachine) (given_of g.M.PassMachine.drawing c.args.input.now b.known) (c.args.number + 1)
    c.in_ok-step.step b.first c.args.input.now.names.store.now b.kept (g.O.Sink.held c.end_step.new.out) (g.O.Sink.faults c.end_step.new.out)
    (g.D.OutputFolder.files c.end_step.new.folder) (g.D.OutputFolder.asked c.end_step.new.folder) (g.D.OutputFolder.faults c.end_step.new.folder)
    (g.M.PassMachine.state c.args.machine.now) (g.M.PassMachine.state c.draw_next.new.machine) c.args.recency.now c.draw_next.new.recency
    (c.in_ok-step.ensures.ended c.args.number c.args.recency.now b at) c.in_err-next.ensures.more c.in_err-next.ensures.refused p.0 p.2)

pub returns-clause-taken : goal.returns-clause-taken
returns-clause-taken g c = λ b at.
    let s = c.in_ok-step.ensures.ended c.args.number c.args.recency.now b at in
    let now = walk_state (folder_of g.D.OutputFolder) c.args.input.now.names.store.now c.end_step.new.folder (b.kept ∷ (g.M.PassMachine.state c.args.machine.now).files)
    (g.O.Sink.held c.end_step.new.out) (g.O.Sink.faults c.end_step.new.out) in
    next_stands (IsDrawnBySome g.M.PassMachine) (given_of g.M.PassMachine.drawing c.args.input.now b.known) b.first (c.args.number + 1)
    c.in_ok-step.step (λ files. state_by (folder_of g.D.OutputFolder) g.O.Sink c.args.input.now.names.store.now c.end_step.new.folder c.end_step.new.out (b.kept ∷ files))
    (g.M.PassMachine.state c.args.machine.now) (g.M.PassMachine.state c.draw_next.new.machine) c.args.recency.now c.draw_next.new.recency s
    c.in_ok-next.next (c.in_ok-next.ensures.next b.known s.run
    (may_turn (IsDrawnBySome g.M.PassMachine) (given_of g.M.PassMachine.drawing c.args.input.now b.known) b.first (c.args.number + 1)
    c.in_ok-step.step now (g.M.PassMachine.state c.args.machine.now) c.args.recency.now s))

pub returns-in_err-step-clause-kept : goal.returns-in_err-step-clause-kept
returns-in_err-step-clause-kept g c = c.end_step.ensures.kept

pub returns-in_err-next-clause-kept : goal.returns-in_err-next-clause-kept
returns-in_err-next-clause-kept g c = record {
  same = c.draw_next.ensures.same;
  asked = c.end_step.ensures.kept.asked;
  faults = c.end_step.ensures.kept.faults;
  out_faults = c.end_step.ensures.kept.out_faults;
}

pub returns-clause-kept : goal.returns-clause-kept
returns-clause-kept g c = record {
  same = c.draw_next.ensures.same;
  asked = c.end_step.ensures.kept.asked;
  faults = c.end_step.ensures.kept.faults;
  out_faults = c.end_step.ensures.kept.out_faults;
}

pub end_step-requires-clause-stands : goal.end_step-requires-clause-stands
end_step-requires-clause-stands g c = (c.args.number, c.args.recency.now, c.requires.stands.0, c.requires.stands.1)
