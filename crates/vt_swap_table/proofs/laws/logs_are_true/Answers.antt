use Rattle.vt_swap_table.proofs.Replaying.{said_true}
use Rattle.vt_swap_table.proofs.laws.logs_are_true.Goals as goal

pub returns : goal.returns
returns c log s d b version lawful limits store are = said_true log s d b lawful store are version
