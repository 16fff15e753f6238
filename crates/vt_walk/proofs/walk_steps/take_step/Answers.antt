use Rattle.std.proofs.Common.{sym, subst}
use Rattle.std.proofs.lemmas.Result.{err_from_is_err_and}
use Rattle.vt_walk.specs.Moments.{moment, at_folder}
use Rattle.vt_walk.specs.Goings.{walk_by, state_in, IsLeft}
use Rattle.vt_walk.specs.DrawnBy.{IsDrawnBySome}
use Rattle.vt_walk.proofs.Going.{stopped}
use Rattle.vt_walk.proofs.Keeping.{kept_on}
use Rattle.vt_walk.specs.OutputFolders.{folder_of}
use Rattle.vt_walk.proofs.walk_steps.take_step.Goals as goal

pub journal_drawn-requires-clause-stands : goal.journal_drawn-requires-clause-stands
journal_drawn-requires-clause-stands g c = (
  (moment (folder_of g.D.OutputFolder) g.O.Sink c.args.folder.now c.args.out.now (g.M.PassMachine.state c.args.machine.now) c.args.recency.now),
  c.args.number,
  c.requires.stands.0,
  c.ranges.number.fits,
  c.requires.stands.1,
)

pub returns-in_err-passed-clause-taken : goal.returns-in_err-passed-clause-taken
returns-in_err-passed-clause-taken g c =
    let p = err_from_is_err_and c.from_residual.result c.from_residual.ensures.1 in
    let now = moment (folder_of g.D.OutputFolder) g.O.Sink c.args.folder.now c.args.out.now (g.M.PassMachine.state c.args.machine.now) c.args.recency.now in
    λ b at. rw p.1 (subst (IsLeft (walk_by g.M.PassMachine c.args.input.now) b (at_folder (folder_of g.D.OutputFolder) c.journal_drawn.new.folder now)) (sym p.2)
    (c.in_err-passed.ensures.journaled now c.args.number b at))

pub returns-in_err-judge-clause-taken : goal.returns-in_err-judge-clause-taken
returns-in_err-judge-clause-taken g c =
    let p = err_from_is_err_and c.from_residual-in_err-judge.result c.from_residual-in_err-judge.ensures.1 in
    let w = walk_by g.M.PassMachine c.args.input.now in
    let now = moment (folder_of g.D.OutputFolder) g.O.Sink c.args.folder.now c.args.out.now (g.M.PassMachine.state c.args.machine.now) c.args.recency.now in
    let after = at_folder (folder_of g.D.OutputFolder) c.journal_drawn.new.folder now in
    λ b at. rw p.1 (subst (IsLeft w b after) (sym p.2)
    (stopped g.M.PassMachine.drawing (IsDrawnBySome g.M.PassMachine)
    g.met.M.PassMachine.shows_whole c.args.input.now b.known c.args.number
    c.in_ok-passed.passed b.first (state_in w b after after.machine.files) after.machine c.args.recency.now c.requires.input
    (c.in_ok-passed.ensures.journaled now c.args.number b at) _ c.in_err-judge.ensures))

pub go_on-requires-clause-stands : goal.go_on-requires-clause-stands
go_on-requires-clause-stands g c =
    let now = moment (folder_of g.D.OutputFolder) g.O.Sink c.args.folder.now c.args.out.now (g.M.PassMachine.state c.args.machine.now) c.args.recency.now in
    (c.requires.stands.0, c.in_ok-passed.ensures.journaled now c.args.number c.requires.stands.0 c.requires.stands.1)

pub returns-clause-taken : goal.returns-clause-taken
returns-clause-taken g c =
    let now = moment (folder_of g.D.OutputFolder) g.O.Sink c.args.folder.now c.args.out.now (g.M.PassMachine.state c.args.machine.now) c.args.recency.now in
    λ b at. c.go_on.ensures.taken b (c.in_ok-passed.ensures.journaled now c.args.number b at)

pub returns-in_err-passed-clause-kept : goal.returns-in_err-passed-clause-kept
returns-in_err-passed-clause-kept g c =
    let now = moment (folder_of g.D.OutputFolder) g.O.Sink c.args.folder.now c.args.out.now (g.M.PassMachine.state c.args.machine.now) c.args.recency.now in
    c.journal_drawn.ensures.kept now

pub returns-in_err-judge-clause-kept : goal.returns-in_err-judge-clause-kept
returns-in_err-judge-clause-kept g c =
    let now = moment (folder_of g.D.OutputFolder) g.O.Sink c.args.folder.now c.args.out.now (g.M.PassMachine.state c.args.machine.now) c.args.recency.now in
    c.journal_drawn.ensures.kept now

pub returns-clause-kept : goal.returns-clause-kept
returns-clause-kept g c =
    let now = moment (folder_of g.D.OutputFolder) g.O.Sink c.args.folder.now c.args.out.now (g.M.PassMachine.state c.args.machine.now) c.args.recency.now in
    kept_on _ _ _ (c.journal_drawn.ensures.kept now) c.go_on.ensures.kept
