use Rattle.std.proofs.Common.{◌≡◌, ◌+◌, ◌≤◌, length, map, take}
use Rattle.vt_residency.specs.Residencies.{is_over}
use Rattle.vt_residency.proofs.residency.over.Given as goal

abbrev pub invariant-loop-state : goal.invariant-loop-state
invariant-loop-state l = record {
  marked : l.marks.elements ≡ map is_over (take l.state-index l.states);
  room : length l.states ≤ l.marks.spare + l.state-index;
}
