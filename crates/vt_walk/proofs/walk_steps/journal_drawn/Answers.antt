use Rattle.std.proofs.Common.{refl, ap, Err, arith}
use Rattle.std.proofs.lemmas.Result.{err_from_is_err_and}
use Rattle.vt_walk.specs.WalkInputs.{given_of}
use Rattle.vt_walk.specs.DrawnBy.{IsDrawnBySome}
use Rattle.vt_walk.proofs.Advancing.{journaled_in_chain, journaled_have_room}
use Rattle.vt_walk.proofs.Passing.{may_draw, pass_made, text_broke}
use Rattle.vt_walk.proofs.walk_steps.journal_drawn.Goals as goal

pub journal_pass-requires-clause-pages : goal.journal_pass-requires-clause-pages
journal_pass-requires-clause-pages g c =
    let t = c.requires.stands.0 in
    let number = c.requires.stands.1 in
    let b = c.requires.stands.2 in
    let s = c.requires.stands.4 in
    journaled_in_chain g.M.PassMachine.drawing c.args.input.now b.known (IsDrawnBySome g.M.PassMachine) s.stands.run number s.step s.before
    t.machine s.recency t.recency c.args.drawn
    (may_draw (IsDrawnBySome g.M.PassMachine) (given_of g.M.PassMachine.drawing c.args.input.now b.known) number s.step b.first _
    s.before s.recency s.stands s.more) s.has_drawn

pub journal_pass-requires-clause-room : goal.journal_pass-requires-clause-room
journal_pass-requires-clause-room g c =
    let t = c.requires.stands.0 in
    let number = c.requires.stands.1 in
    let b = c.requires.stands.2 in
    let s = c.requires.stands.4 in
    journaled_have_room g.M.PassMachine.drawing c.args.input.now b.known (IsDrawnBySome g.M.PassMachine) s.stands.run number s.step s.before
    t.machine s.recency t.recency c.args.drawn c.requires.input c.requires.stands.3
    (may_draw (IsDrawnBySome g.M.PassMachine) (given_of g.M.PassMachine.drawing c.args.input.now b.known) number s.step b.first _
    s.before s.recency s.stands s.more) s.has_drawn

pub returns-in_err-journal_pass-clause-journaled : goal.returns-in_err-journal_pass-clause-journaled
returns-in_err-journal_pass-clause-journaled g c =
    let p = err_from_is_err_and c.from_residual.result c.from_residual.ensures.1 in
    λ t number b s. rw p.1 (text_broke (IsDrawnBySome g.M.PassMachine)
    (given_of g.M.PassMachine.drawing c.args.input.now b.known) number s.step b.first
    c.args.input.now.names.store.now b.kept t.held t.out_faults (g.D.OutputFolder.files c.args.folder.now) (g.D.OutputFolder.asked c.args.folder.now)
    (g.D.OutputFolder.faults c.args.folder.now) s.before t.machine s.recency t.recency
    (g.D.OutputFolder.files c.journal_pass.new.folder) (g.D.OutputFolder.asked c.journal_pass.new.folder) (g.D.OutputFolder.faults c.journal_pass.new.folder)
    c.args.drawn _ p.0 s.stands s.has_drawn
    c.in_err-journal_pass.ensures.part c.in_err-journal_pass.ensures.asked c.in_err-journal_pass.ensures.faults
    (λ is. c.in_err-journal_pass.ensures.failed (ap Err is)) p.2)

pub returns-clause-journaled : goal.returns-clause-journaled
returns-clause-journaled g c = λ t number b s. pass_made (IsDrawnBySome g.M.PassMachine)
    (given_of g.M.PassMachine.drawing c.args.input.now b.known) number s.step b.first
    c.args.input.now.names.store.now b.kept t.held t.out_faults (g.D.OutputFolder.files c.args.folder.now) (g.D.OutputFolder.asked c.args.folder.now)
    (g.D.OutputFolder.faults c.args.folder.now) s.before t.machine s.recency t.recency
    (g.D.OutputFolder.files c.journal_pass.new.folder) (g.D.OutputFolder.asked c.journal_pass.new.folder) (g.D.OutputFolder.faults c.journal_pass.new.folder)
    c.args.drawn s.stands s.has_drawn
    c.in_ok-journal_pass.ensures.whole c.in_ok-journal_pass.ensures.there c.in_ok-journal_pass.ensures.asked c.in_ok-journal_pass.ensures.faults

pub returns-in_err-journal_pass-clause-kept : goal.returns-in_err-journal_pass-clause-kept
returns-in_err-journal_pass-clause-kept g c = λ t. record {
  same = record { names = refl; all_known = refl };
  asked = c.journal_pass.ensures.asked;
  faults = c.journal_pass.ensures.faults;
  out_faults = omega arith;
}

pub returns-clause-kept : goal.returns-clause-kept
returns-clause-kept g c = λ t. record {
  same = record { names = refl; all_known = refl };
  asked = c.journal_pass.ensures.asked;
  faults = c.journal_pass.ensures.faults;
  out_faults = omega arith;
}
