use Rattle.vt_journal.proofs.Following.{pass_admitted, pass_complete, spelled_by_pass}
use Rattle.vt_journal.proofs.lawful.pass_may_follow.Goals as goal

pub returns : goal.returns
returns c = record { admitted = pass_admitted; complete = pass_complete; spelled = spelled_by_pass }
