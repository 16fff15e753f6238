use Rattle.std.proofs.Common.{◌≡◌}
use Rattle.vt_schedules.specs.Bags.{IsPassOfBag, view_of, splits_of}
use Rattle.vt_schedules.proofs.bag.RowBag.take.Given as goal

abbrev pub invariant-loop : goal.invariant-loop
invariant-loop g l = record {
  of : IsPassOfBag l.self l.pass;
  splits : splits_of l.pass ≡ splits_of l.initial.pass;
  view : view_of l.pass ≡ view_of l.initial.pass;
}
