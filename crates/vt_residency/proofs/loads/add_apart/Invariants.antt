use Rattle.std.proofs.Common.{◌≡◌, ◌+◌, ◌≤◌, ◌++◌, length, take}
use Rattle.std.specs.List.{filter}
use Rattle.vt_residency.specs.Loads.{is_apart}
use Rattle.vt_residency.proofs.loads.add_apart.Given as goal

abbrev pub invariant-loop-entry : goal.invariant-loop-entry
invariant-loop-entry l = record {
  added : l.loads.elements ≡ l.fn.loads.elements ++ filter (is_apart l.fn.loads.elements) (take l.entry-index l.plan);
  room : length l.plan ≤ l.loads.spare + l.entry-index;
}
