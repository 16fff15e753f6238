use Rattle.std.proofs.Common.{arith}
use Rattle.std.proofs.lemmas.Grind.{common_steps}
use Rattle.vt_text.proofs.line.Line.number.Goals as goal

pub returns-clause-gained : goal.returns-clause-gained
returns-clause-gained c = grind (arith, common_steps)
