use Rattle.std.proofs.Common.{arith}
use Rattle.vt_journal.proofs.read.rows.is_row_in_turn.Goals as goal

pub returns-then-seen-row : goal.returns-then-seen-row
returns-then-seen-row c = λ turn. omega (arith, turn.rises, c.if-seen-row.true)
