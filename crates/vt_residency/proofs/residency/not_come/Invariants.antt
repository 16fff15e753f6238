use Rattle.std.proofs.Common.{◌≡◌, ◌+◌, ◌≤◌, length, map, take}
use Rattle.vt_residency.specs.Residencies.{has_not_come}
use Rattle.vt_residency.proofs.residency.not_come.Given as goal

abbrev pub invariant-loop-state : goal.invariant-loop-state
invariant-loop-state l = record {
  marked : l.marks.elements ≡ map has_not_come (take l.state-index l.states);
  room : length l.states ≤ l.marks.spare + l.state-index;
}
