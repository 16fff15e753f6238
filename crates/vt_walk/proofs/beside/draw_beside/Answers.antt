use Rattle.std.proofs.Common.{◌+◌, ◌∷◌, ◌∙◌, List, length, ap, arith, sym, subst}
use Rattle.std.proofs.lemmas.Result.{err_from_is_err_and}
use Rattle.vt_journal.specs.declared.changes.Change.{Change}
use Rattle.vt_walk_decisions.specs.Reported.{next_step}
use Rattle.vt_walk.specs.WalkEffects.{state_by}
use Rattle.vt_walk.specs.States.{walk_state}
use Rattle.vt_walk.specs.WalkInputs.{given_of}
use Rattle.vt_walk.specs.WalkSteps.{LeftByRefusal}
use Rattle.vt_walk.specs.DrawnBy.{IsDrawnBySome}
use Rattle.vt_walk.proofs.Besides.{ran_as, left_after, plan_broke, is_drawn}
use Rattle.vt_walk.proofs.Keeping.{kept_here}
use Rattle.vt_walk.specs.OutputFolders.{folder_of}
use Rattle.vt_walk.proofs.beside.draw_beside.Goals as goal

pub make_picture-requires-clause-few : goal.make_picture-requires-clause-few
make_picture-requires-clause-few g c =
    let i = c.requires.stands.1.passed.inside in let e = c.requires.stands.1.passed.picture in let few = c.requires.input.pictures in omega (arith, i, e, few)

pub plan_on-requires-clause-ran : goal.plan_on-requires-clause-ran
plan_on-requires-clause-ran g c =
    let b = c.requires.stands.0 in
    let s = ran_as (IsDrawnBySome g.M.PassMachine) (given_of g.M.PassMachine.drawing c.args.input.now b.known) (c.args.number + 1) (next_step c.args.passed) c.step_after-step.result
    (length (g.M.PassMachine.state c.args.machine.now).journal) c.version-start.result c.in_ok-report.report b.first
    (λ files. state_by (folder_of g.D.OutputFolder) g.O.Sink c.args.input.now.names.store.now c.write_beside.new.folder c.write_beside.new.out (b.kept ∷ files)) (g.M.PassMachine.state c.write_beside.new.machine) c.args.recency.now
    c.step_after-step.ensures (c.version-start.ensures.version ∙ ap (λ (x : List Change). length x) c.journal.ensures)
    (c.in_ok-report.ensures.ran c.args.number c.args.recency.now b c.requires.stands.1) in (
      record { known = b.known; run = s.stands.run; machine = s.before },
      s.has_run,
    )

pub returns-in_err-name-clause-taken : goal.returns-in_err-name-clause-taken
returns-in_err-name-clause-taken g c =
    let p = err_from_is_err_and c.from_residual.result c.from_residual.ensures.1 in
    λ b at. rw p.1 (left_after g.M.PassMachine.drawing (IsDrawnBySome g.M.PassMachine)
    g.met.M.PassMachine.shows_whole
    c.args.input.now b.known c.args.number c.args.passed b.first
    (g.M.PassMachine.state c.args.machine.now) c.args.recency.now c.requires.input
    (walk_state (folder_of g.D.OutputFolder) c.args.input.now.names.store.now c.args.folder.now (b.kept ∷ (g.M.PassMachine.state c.args.machine.now).files)
    (g.O.Sink.held c.args.out.now) (g.O.Sink.faults c.args.out.now)) at p.0 p.2)

pub returns-in_err-report-clause-taken : goal.returns-in_err-report-clause-taken
returns-in_err-report-clause-taken g c =
    let p = err_from_is_err_and c.from_residual-in_err-report.result c.from_residual-in_err-report.ensures.1 in
    λ b at. rw p.1 (subst (LeftByRefusal (IsDrawnBySome g.M.PassMachine) (given_of g.M.PassMachine.drawing c.args.input.now b.known) b.first
    (walk_state (folder_of g.D.OutputFolder) c.args.input.now.names.store.now c.write_beside.new.folder (b.kept ∷ (g.M.PassMachine.state c.write_beside.new.machine).files)
    (g.O.Sink.held c.write_beside.new.out) (g.O.Sink.faults c.write_beside.new.out))) (sym p.2)
    (c.in_err-report.ensures.ran c.args.number c.args.recency.now b at))

pub returns-in_err-drawn-clause-taken : goal.returns-in_err-drawn-clause-taken
returns-in_err-drawn-clause-taken g c =
    let p = err_from_is_err_and c.from_residual-in_err-drawn.result c.from_residual-in_err-drawn.ensures.1 in
    λ b at. rw p.1 (plan_broke g.M.PassMachine.drawing (IsDrawnBySome g.M.PassMachine) c.args.input.now b.known
    (folder_of g.D.OutputFolder) c.args.input.now.names.store.now b.kept (g.O.Sink.held c.write_beside.new.out) (g.O.Sink.faults c.write_beside.new.out)
    c.write_beside.new.folder (c.args.number + 1) c.version-start.result c.step_after-step.result c.in_ok-report.report b.first (g.M.PassMachine.state c.write_beside.new.machine)
    c.args.recency.now c.plan_on.new.recency (ran_as (IsDrawnBySome g.M.PassMachine) (given_of g.M.PassMachine.drawing c.args.input.now b.known) (c.args.number + 1) (next_step c.args.passed) c.step_after-step.result
    (length (g.M.PassMachine.state c.args.machine.now).journal) c.version-start.result c.in_ok-report.report b.first
    (λ files. state_by (folder_of g.D.OutputFolder) g.O.Sink c.args.input.now.names.store.now c.write_beside.new.folder c.write_beside.new.out (b.kept ∷ files)) (g.M.PassMachine.state c.write_beside.new.machine) c.args.recency.now
    c.step_after-step.ensures (c.version-start.ensures.version ∙ ap (λ (x : List Change). length x) c.journal.ensures)
    (c.in_ok-report.ensures.ran c.args.number c.args.recency.now b at)) p.0 p.2)

pub returns-clause-taken : goal.returns-clause-taken
returns-clause-taken g c = λ b at.
    let s = ran_as (IsDrawnBySome g.M.PassMachine) (given_of g.M.PassMachine.drawing c.args.input.now b.known) (c.args.number + 1) (next_step c.args.passed) c.step_after-step.result
    (length (g.M.PassMachine.state c.args.machine.now).journal) c.version-start.result c.in_ok-report.report b.first
    (λ files. state_by (folder_of g.D.OutputFolder) g.O.Sink c.args.input.now.names.store.now c.write_beside.new.folder c.write_beside.new.out (b.kept ∷ files)) (g.M.PassMachine.state c.write_beside.new.machine) c.args.recency.now
    c.step_after-step.ensures (c.version-start.ensures.version ∙ ap (λ (x : List Change). length x) c.journal.ensures)
    (c.in_ok-report.ensures.ran c.args.number c.args.recency.now b at) in
    is_drawn g.M.PassMachine.drawing (IsDrawnBySome g.M.PassMachine) c.args.input.now b.known
    (folder_of g.D.OutputFolder) c.args.input.now.names.store.now b.kept (g.O.Sink.held c.write_beside.new.out) (g.O.Sink.faults c.write_beside.new.out)
    c.write_beside.new.folder (c.args.number + 1) c.version-start.result c.step_after-step.result c.in_ok-report.report b.first (g.M.PassMachine.state c.write_beside.new.machine)
    c.args.recency.now c.plan_on.new.recency s c.in_ok-drawn.drawn
    (c.in_ok-drawn.ensures (record { known = b.known; run = s.stands.run; machine = s.before }) s.has_run)

pub returns-in_err-name-clause-kept : goal.returns-in_err-name-clause-kept
returns-in_err-name-clause-kept g c = kept_here _

pub returns-in_err-report-clause-kept : goal.returns-in_err-report-clause-kept
returns-in_err-report-clause-kept g c = c.write_beside.ensures.kept

pub returns-in_err-drawn-clause-kept : goal.returns-in_err-drawn-clause-kept
returns-in_err-drawn-clause-kept g c = c.write_beside.ensures.kept

pub returns-clause-kept : goal.returns-clause-kept
returns-clause-kept g c = c.write_beside.ensures.kept

pub write_beside-requires-clause-stands : goal.write_beside-requires-clause-stands
write_beside-requires-clause-stands g c =
    (c.args.number, c.args.recency.now, c.requires.stands.0, c.requires.few, c.requires.stands.1)
