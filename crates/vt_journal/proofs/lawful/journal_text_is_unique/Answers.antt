use Rattle.vt_journal.proofs.Contents.{content_unique}
use Rattle.vt_journal.proofs.lawful.journal_text_is_unique.Goals as goal

pub returns : goal.returns
returns c = content_unique
