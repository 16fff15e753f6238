use Rattle.std.proofs.Common.{ℕ, ◌<◌, ◌≤◌, length, drop, get_or}
use Rattle.vt_plan.specs.declared.batches.Planned.{Planned}
use Rattle.vt_plan.specs.Views.{IsRecencyTable}
use Rattle.vt_evict.specs.Batches.{IsSettledByReads, IsLawfulEntry, read_entries}
use Rattle.vt_evict.proofs.recency.Recency.settle.Given as goal

abbrev pub invariant-loop-left : goal.invariant-loop-left
invariant-loop-left l = record {
  inside : l.left ≤ length l.batch.elements;
  settled : IsSettledByReads l.fn.self (read_entries (drop l.left l.batch.elements) (drop l.left l.lost.elements)) l.self;
  table : IsRecencyTable l.self;
  lawful : (i : ℕ) (d : Planned) → i < l.left → IsLawfulEntry l.self (get_or l.batch.elements i d);
}

abbrev pub decreases-loop-left : goal.decreases-loop-left
decreases-loop-left l = l.left
