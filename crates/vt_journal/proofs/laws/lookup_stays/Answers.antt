use Rattle.vt_journal.proofs.Finding.{lookup_stays}
use Rattle.vt_journal.proofs.laws.lookup_stays.Goals as goal

pub returns : goal.returns
returns c = lookup_stays
