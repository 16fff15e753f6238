use Rattle.std.proofs.Common.{rules}
use Rattle.vt_command_inputs.proofs.output.outside_error.Goals as goal

pub returns-in_default : goal.returns-in_default
returns-in_default c = search rules
