use Rattle.std.proofs.Common.{◌≡◌, ◌+◌, ◌≤◌, length, take}
use Rattle.vt_pass_pool.specs.Placing.{lines_of}
use Rattle.vt_pass_pool.proofs.placing.note_lines.Given as goal

abbrev pub invariant-loop-y : goal.invariant-loop-y
invariant-loop-y l = record {
  lines : l.lines.elements ≡ lines_of (take l.y l.drawn);
  spare : length l.drawn ≤ l.y + l.lines.spare;
}
