use Rattle.vt_journal.proofs.Versions.{in_turn-more, legal-more, pinned-more}
use Rattle.vt_journal.proofs.laws.journal_grows.Goals as goal

pub returns : goal.returns
returns c = record { in_turn = in_turn-more; legal = legal-more; pinned = pinned-more }
