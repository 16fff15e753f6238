use Rattle.std.proofs.Common.{rules}
use Rattle.vt_walk_commands.proofs.commands.trial.compare.Goals as goal

pub returns : goal.returns
returns g c = search rules
