use Rattle.vt_journal.proofs.ByParts.{parts_of_lawful, content_pinned}
use Rattle.vt_journal.proofs.lawful.lawful_pages_are_pinned.Goals as goal

pub returns : goal.returns
returns c = λ s height content lawful. content_pinned s height content (parts_of_lawful s height content lawful)
