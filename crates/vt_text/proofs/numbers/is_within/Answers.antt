use Rattle.std.proofs.Common.{rules}
use Rattle.vt_text.proofs.numbers.is_within.Goals as goal

pub returns-then-least-number : goal.returns-then-least-number
returns-then-least-number c = search rules

pub returns-else-least-number : goal.returns-else-least-number
returns-else-least-number c = search rules
