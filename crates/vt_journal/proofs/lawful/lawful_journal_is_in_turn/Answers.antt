use Rattle.vt_journal.proofs.Growing.{lawful_in_turn}
use Rattle.vt_journal.proofs.lawful.lawful_journal_is_in_turn.Goals as goal

pub returns : goal.returns
returns c = lawful_in_turn
