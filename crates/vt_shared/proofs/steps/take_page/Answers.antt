use Rattle.std.proofs.Common.{sym, ◌∙◌}
use Rattle.vt_shared.proofs.Handing.{given_unmapped}
use Rattle.vt_shared.proofs.Keeping.{same_none, same_looked, kept_published}
use Rattle.vt_shared.proofs.steps.take_page.Goals as goal

pub returns-clause-given : goal.returns-clause-given
returns-clause-given c = λ d given.
    let v = c.args.streamer.now in
    given_unmapped d v v c.try_publish.new.self c.args.page c.args.frame (same_none v) c.in_ok-try_publish.ensures.published
    c.try_publish.ensures.shape c.requires.of.sound.contents given

pub returns-clause-kept : goal.returns-clause-kept
returns-clause-kept c =
    kept_published c.args.streamer.now c.try_publish.new.self _ c.in_ok-try_publish.ensures.published
    (c.try_publish.ensures.of.table ∙ sym c.requires.of.table) c.try_publish.ensures.shape

pub returns-in_err-try_publish-clause-kept : goal.returns-in_err-try_publish-clause-kept
returns-in_err-try_publish-clause-kept c =
    (same_looked c.args.streamer.now c.try_publish.new.self c.in_err-try_publish.ensures.refused c.in_err-try_publish.ensures.unchanged).kept
