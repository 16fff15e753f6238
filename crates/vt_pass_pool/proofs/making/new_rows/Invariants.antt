use Rattle.std.proofs.Common.{◌+◌, ◌≤◌, length}
use Rattle.vt_pass_rows.specs.SchedulesRows.{AreRowsInPlace}
use Rattle.vt_pass_pool.proofs.making.new_rows.Given as goal

abbrev pub invariant-loop-row : goal.invariant-loop-row
invariant-loop-row l = record {
  first : AreRowsInPlace l.row (length l.line) l.rows.elements;
  spare : l.height ≤ l.row + l.rows.spare;
}
