use Rattle.vt_journal.proofs.Versions.{pinned_stay}
use Rattle.vt_journal.proofs.laws.pinned_pages_stay.Goals as goal

pub returns : goal.returns
returns c = pinned_stay
