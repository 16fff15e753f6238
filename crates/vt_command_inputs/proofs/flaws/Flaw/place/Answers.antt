use Rattle.std.proofs.Common.{rules}
use Rattle.vt_command_inputs.proofs.flaws.Flaw.place.Goals as goal

pub returns-in-BadLine : goal.returns-in-BadLine
returns-in-BadLine c = search rules
