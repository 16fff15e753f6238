use Rattle.vt_journal.proofs.Growing.{lawful_more, spelled_content}
use Rattle.vt_journal.proofs.lawful.lawful_content_grows.Goals as goal

pub returns : goal.returns
returns c = record { lawful = lawful_more; spelled = spelled_content }
