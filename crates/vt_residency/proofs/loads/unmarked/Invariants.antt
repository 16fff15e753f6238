use Rattle.std.proofs.Common.{◌≡◌, ◌+◌, ◌≤◌, length, take}
use Rattle.vt_evict.specs.Batches.{read_entries}
use Rattle.vt_residency.proofs.loads.unmarked.Given as goal

abbrev pub invariant-loop-i : goal.invariant-loop-i
invariant-loop-i l = record {
  left : l.left.elements ≡ read_entries (take l.i l.loads.elements) (take l.i l.marks.elements);
  room : length l.loads.elements ≤ l.left.spare + l.i;
}
