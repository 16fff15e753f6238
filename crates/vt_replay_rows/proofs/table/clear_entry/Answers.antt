use Rattle.std.proofs.Common.{rules}
use Rattle.vt_replay_rows.proofs.table.clear_entry.Goals as goal

pub returns : goal.returns
returns c = search rules
