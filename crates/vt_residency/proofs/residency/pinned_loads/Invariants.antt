use Rattle.std.proofs.Common.{◌≡◌, ◌+◌, ◌≤◌, map}
use Rattle.std.specs.List.{range_with_len}
use Rattle.vt_residency.specs.Residencies.{pinned_at}
use Rattle.vt_residency.proofs.residency.pinned_loads.Given as goal

abbrev pub invariant-loop-i : goal.invariant-loop-i
invariant-loop-i l = record {
  came : l.came.elements ≡ map (pinned_at l.geometry l.pinned) (range_with_len 0 l.i);
  room : l.pinned ≤ l.came.spare + l.i;
}
