use Rattle.vt_journal.proofs.Reversing.{pass_next}
use Rattle.vt_journal.proofs.lawful.pass_was_next.Goals as goal

pub returns : goal.returns
returns c = pass_next
