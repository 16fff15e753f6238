use Rattle.std.proofs.Common.{◌≡◌, ◌≤◌, ◌++◌, length, reverse}
use Rattle.vt_pass_pool.proofs.making.turned.Given as goal

abbrev pub invariant-loop-item : goal.invariant-loop-item
invariant-loop-item g l = record {
  are : l.made.elements ++ reverse l.list.elements ≡ reverse l.initial.list.elements;
  room : length l.list.elements ≤ l.made.spare;
}

abbrev pub decreases-loop-item : goal.decreases-loop-item
decreases-loop-item g l = length l.list.elements
