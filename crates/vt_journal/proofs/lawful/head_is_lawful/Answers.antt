use Rattle.vt_journal.proofs.Heads.{head_lawful, spelled_by_head}
use Rattle.vt_journal.proofs.lawful.head_is_lawful.Goals as goal

pub returns : goal.returns
returns c = record { lawful = head_lawful; spelled = spelled_by_head }
