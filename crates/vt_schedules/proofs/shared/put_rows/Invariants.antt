use Rattle.std.proofs.Common.{◌≡◌, ℕ, ◌<◌, ◌≤◌, [], length, get_or, take}
use Rattle.vt_queue.specs.PassViews.{pass_view, all_shares}
use Rattle.vt_queue.specs.Orders.{placed}
use Rattle.vt_schedules.specs.declared.bag.RowJob.{RowJob}
use Rattle.vt_schedules.specs.Bags.{view_of, IsPassOfBag}
use Rattle.vt_schedules.proofs.shared.put_rows.Given as goal

abbrev pub invariant-loop-y : goal.invariant-loop-y
invariant-loop-y g l = record {
  of : IsPassOfBag l.bag l.rows;
  view : view_of l.rows ≡ pass_view all_shares [] (placed 0 (take l.y l.fn.drawn)) [];
  rest : (k : ℕ) (d : RowJob) → l.y ≤ k → k < length l.fn.drawn → get_or l.drawn k d ≡ get_or l.fn.drawn k d;
}
