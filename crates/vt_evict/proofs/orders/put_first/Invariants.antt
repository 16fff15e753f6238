use Rattle.std.proofs.Common.{◌≡◌, ◌++◌, drop, length}
use Rattle.std.specs.List.{filter}
use Rattle.std.specs.Map.{keys_of}
use Rattle.vt_plan.specs.Orders.{put_first}
use Rattle.vt_plan.specs.Views.{is_loose_below}
use Rattle.vt_evict.specs.Kept.{IsWalk}
use Rattle.vt_evict.proofs.orders.put_first.Given as goal

abbrev pub invariant-loop-page : goal.invariant-loop-page
invariant-loop-page l = record {
  walk : IsWalk l.pages l.walk.marks.items l.walk.walked;
  front : l.walk.walked.elements ++ drop (length l.walk.walked.elements) l.fn.walk.walked.elements ≡ l.fn.walk.walked.elements;
  order : keys_of l.order.entries
      ≡ put_first (filter (is_loose_below l.entries l.unpinned) (drop (length l.walk.walked.elements) l.fn.walk.walked.elements)) (keys_of l.fn.order.entries);
  cap : l.order.cap ≡ l.fn.order.cap;
}

abbrev pub decreases-loop-page : goal.decreases-loop-page
decreases-loop-page l = length l.walk.walked.elements
