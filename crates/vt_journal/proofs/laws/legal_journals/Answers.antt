use Rattle.vt_journal.proofs.Versions.{legal-none, in_turn-legal, legal-pinned}
use Rattle.vt_journal.proofs.laws.legal_journals.Goals as goal

pub returns : goal.returns
returns c = record { none = legal-none; in_turn = in_turn-legal; pinned = legal-pinned }
