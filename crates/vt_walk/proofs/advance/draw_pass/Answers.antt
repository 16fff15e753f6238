use Rattle.std.proofs.Common.{List, ap, ◌∙◌}
use Rattle.std.proofs.lemmas.Result.{err_from_is_err_and}
use Rattle.std.specs.Prelude.{length}
use Rattle.vt_journal.specs.declared.changes.Change.{Change}
use Rattle.vt_outside.proofs.UnknownContents.{OnErr-all}
use Rattle.vt_walk.specs.WalkInputs.{input_scene}
use Rattle.vt_walk.proofs.Advancing.{may_prepare, is_job, read_at_most, read_broken, ran_anyhow, drawn_by_some}
use Rattle.vt_walk.proofs.advance.draw_pass.Goals as goal

pub run_pass-requires-clause-may : goal.run_pass-requires-clause-may
run_pass-requires-clause-may g c = may_prepare g.M.PassMachine.drawing
    c.args.input.now c.requires.may.0
    c.requires.may.1 c.args.number c.args.step (g.M.PassMachine.state c.args.machine.now) c.args.recency.now c.requires.input c.ranges.number.fits
    c.requires.may.2

pub run_pass-requires-clause-job : goal.run_pass-requires-clause-job
run_pass-requires-clause-job g c = is_job g.M.PassMachine.drawing
    c.args.input.now c.requires.may.0
    c.requires.may.1 c.args.number c.args.step (g.M.PassMachine.state c.args.machine.now) c.args.recency.now c.requires.may.2

pub plan_on-requires-clause-ran : goal.plan_on-requires-clause-ran
plan_on-requires-clause-ran g c = (
  record { known = c.requires.may.0; run = c.requires.may.1; machine = g.M.PassMachine.state c.args.machine.now },
  record {
    may = c.requires.may.2;
    start_is = c.version-start.ensures.version ∙ ap (λ (x : List Change). length x) c.journal.ensures;
    ran = ran_anyhow g.M.PassMachine.drawing (g.M.PassMachine.drawn c.run_pass.new.machine)
        (record { scene = input_scene c.args.input.now; picture = c.args.step.picture; batch = c.args.step.batch.elements })
        c.in_ok-report.report (g.M.PassMachine.state c.args.machine.now) (g.M.PassMachine.state c.run_pass.new.machine) c.in_ok-report.ensures.ran.ran;
    by = drawn_by_some g.M.PassMachine c.run_pass.new.machine
        (record { scene = input_scene c.args.input.now; picture = c.args.step.picture; batch = c.args.step.batch.elements })
        c.in_ok-report.report (g.M.PassMachine.state c.args.machine.now) c.in_ok-report.ensures.ran.goes_on c.in_ok-report.ensures.ran.ran;
  },
)

pub returns-in_err-report-clause-refused : goal.returns-in_err-report-clause-refused
returns-in_err-report-clause-refused g c =
    let p = err_from_is_err_and c.from_residual.result c.from_residual.ensures.1 in
    rw p.1 (read_broken g.M.PassMachine.drawing c.args.input.now c.requires.may.0
    c.requires.may.1 c.args.number c.args.step (g.M.PassMachine.state c.args.machine.now) (g.M.PassMachine.state c.run_pass.new.machine)
    c.args.recency.now c.requires.may.2 c.in_err-report.ensures.ran.broke)

pub returns-clause-drawn : goal.returns-clause-drawn
returns-clause-drawn g c = λ known run may. c.plan_on.ensures
    (record { known = known; run = run; machine = g.M.PassMachine.state c.args.machine.now })
    (record {
      may = may;
      start_is = c.version-start.ensures.version ∙ ap (λ (x : List Change). length x) c.journal.ensures;
      ran = ran_anyhow g.M.PassMachine.drawing (g.M.PassMachine.drawn c.run_pass.new.machine)
          (record { scene = input_scene c.args.input.now; picture = c.args.step.picture; batch = c.args.step.batch.elements })
          c.in_ok-report.report (g.M.PassMachine.state c.args.machine.now) (g.M.PassMachine.state c.run_pass.new.machine) c.in_ok-report.ensures.ran.ran;
      by = drawn_by_some g.M.PassMachine c.run_pass.new.machine
          (record { scene = input_scene c.args.input.now; picture = c.args.step.picture; batch = c.args.step.batch.elements })
          c.in_ok-report.report (g.M.PassMachine.state c.args.machine.now) c.in_ok-report.ensures.ran.goes_on c.in_ok-report.ensures.ran.ran;
    })

pub returns-clause-refused : goal.returns-clause-refused
returns-clause-refused g c = OnErr-all c.plan_on.result _ (read_at_most g.M.PassMachine.drawing c.args.input.now c.requires.may.0
    (g.M.PassMachine.drawn c.run_pass.new.machine) c.requires.may.1 c.args.number c.args.step (g.M.PassMachine.state c.args.machine.now)
    (g.M.PassMachine.state c.run_pass.new.machine) c.args.recency.now c.in_ok-report.report c.requires.may.2 c.in_ok-report.ensures.ran.ran)
