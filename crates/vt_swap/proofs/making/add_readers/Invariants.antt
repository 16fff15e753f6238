use Rattle.std.proofs.Common.{◌≡◌, ◌+◌, ◌≤◌, length, drop}
use Rattle.std.specs.Prelude.{All}
use Rattle.left_right.specs.Sides.{view}
use Rattle.vt_swap_steps.specs.Caches.{cache_of}
use Rattle.vt_swap_steps.specs.Rules.{KnowsLog}
use Rattle.vt_swap.specs.Making.{IsNewReader}
use Rattle.vt_swap.proofs.making.add_readers.Given as goal

abbrev pub invariant-loop-made : goal.invariant-loop-made
invariant-loop-made g l = record {
  each : All (IsNewReader (cache_of l.front)) l.list.elements;
  count : length l.list.elements ≡ l.made;
  room : l.fn.count ≤ l.made + l.list.spare;
  knows : KnowsLog (view l.writer.desk.place) l.front;
  shown : l.writer.desk.shown ≡ l.fn.writer.desk.shown;
  pending : drop l.writer.behind l.writer.log.items ≡ drop l.fn.writer.behind l.fn.writer.log.items;
}
