use Rattle.vt_journal.proofs.ByParts.{lawful_by_parts, parts_of_lawful}
use Rattle.vt_journal.proofs.lawful.lawful_by_parts.Goals as goal

pub returns : goal.returns
returns c = λ s height content. (parts_of_lawful s height content, lawful_by_parts s height content)
