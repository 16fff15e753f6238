use Rattle.std.proofs.Common.{refl, sym, ◌∙◌, subst, arith}
use Rattle.vt_pages.specs.Shape.{Shape}
use Rattle.vt_replay.specs.Outcomes.{IsReplayable, LeavesReplay}
use Rattle.vt_replay.proofs.Answering.{leaves_played, played_failed}
use Rattle.vt_replay_rows.proofs.Reading.{read_none}
use Rattle.vt_replay.proofs.pictures.replay_open.Goals as goal

pub returns-clause-leaves : goal.returns-clause-leaves
returns-clause-leaves g c =
    let store = c.args.store.now in
    let path = c.args.path.now in
    let text = c.in_ok-text.text in
    let known = g.D.File.File.bytes store.file in
    let before = g.D.Folder.files c.args.folder.now in
    let after = g.D.Folder.files c.play.new.folder in
    let read = subst (λ (s : Shape). IsReplayable s path c.args.journal.now text.content) c.geometry-geometry.ensures.shape c.in_ok-text.ensures.read in
    subst (LeavesReplay g.P.Filter.under store.shape store.depth known path c.args.journal.now c.args.prefix.now before after) (sym c.answer_of.ensures)
    (leaves_played g.P.Filter.under store.shape store.depth known path c.args.journal.now c.args.prefix.now text.content before after c.play.result read
    c.play.ensures.count c.play.ensures.wrote)

pub returns-clause-failed : goal.returns-clause-failed
returns-clause-failed g c = λ e. c.play.ensures.failed (played_failed c.play.result (sym c.answer_of.ensures ∙ e))

pub returns-clause-asks : goal.returns-clause-asks
returns-clause-asks g c = c.play.ensures.asks

pub returns-clause-read : goal.returns-clause-read
returns-clause-read g c = c.play.ensures.read

pub returns-in_err-text-clause-asks : goal.returns-in_err-text-clause-asks
returns-in_err-text-clause-asks g c = record { asked = refl; faults = omega arith }

pub returns-in_err-text-clause-read : goal.returns-in_err-text-clause-read
returns-in_err-text-clause-read g c = read_none g.D.File.File c.args.store.now
