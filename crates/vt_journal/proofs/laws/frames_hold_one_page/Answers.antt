use Rattle.vt_journal.proofs.Versions.{one_to_one}
use Rattle.vt_journal.proofs.laws.frames_hold_one_page.Goals as goal

pub returns : goal.returns
returns c = one_to_one
