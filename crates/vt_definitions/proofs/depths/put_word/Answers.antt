use Rattle.std.proofs.Common.{rules}
use Rattle.vt_definitions.proofs.depths.put_word.Goals as goal

pub returns-then-this-eq1-clause-written : goal.returns-then-this-eq1-clause-written
returns-then-this-eq1-clause-written g c = search rules
