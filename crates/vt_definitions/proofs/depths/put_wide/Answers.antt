use Rattle.std.proofs.Common.{rules}
use Rattle.vt_definitions.proofs.depths.put_wide.Goals as goal

pub returns-clause-written : goal.returns-clause-written
returns-clause-written c = search rules
