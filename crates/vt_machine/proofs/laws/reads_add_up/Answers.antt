use Rattle.vt_machine.proofs.OneRead.{read_more}
use Rattle.vt_machine.proofs.laws.reads_add_up.Goals as goal

pub returns : goal.returns
returns c = read_more
