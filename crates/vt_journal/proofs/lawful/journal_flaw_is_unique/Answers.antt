use Rattle.vt_journal.proofs.Contents.{journal_flaw_unique}
use Rattle.vt_journal.proofs.lawful.journal_flaw_is_unique.Goals as goal

pub returns : goal.returns
returns c = journal_flaw_unique
