use Rattle.vt_journal.proofs.Contents.{lawful_has_no_flaw}
use Rattle.vt_journal.proofs.lawful.lawful_text_has_no_flaw.Goals as goal

pub returns : goal.returns
returns c = lawful_has_no_flaw
