use Rattle.std.proofs.Common.{◌≡◌, ◌≤◌, ◌+◌, map, drop, length}
use Rattle.std.specs.List.{range_with_len}
use Rattle.vt_plan.specs.Entries.{freed_at}
use Rattle.vt_plan.proofs.plans.put_free.Given as goal

abbrev pub invariant-loop-frame : goal.invariant-loop-frame
invariant-loop-frame l = record {
  put : l.batch.elements ≡ map (freed_at l.missing l.free.keys) (range_with_len 0 (length l.batch.elements));
  rest : drop (length l.batch.elements) l.free.keys ≡ l.frame-iterator;
  most : length l.batch.elements ≤ l.most;
  inside : length l.batch.elements ≤ length l.free.keys;
  room : l.most ≤ l.batch.spare + length l.batch.elements;
}
