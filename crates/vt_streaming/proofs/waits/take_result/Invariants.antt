use Rattle.std.proofs.Common.{◌≡◌}
use Rattle.vt_queue.specs.Queues.{queue_view_of, queue_splits_of, IsPassOfQueue}
use Rattle.vt_streaming.proofs.waits.take_result.Given as goal

abbrev pub invariant-loop : goal.invariant-loop
invariant-loop g l = record {
  of : IsPassOfQueue l.results l.answers;
  splits : queue_splits_of l.answers ≡ queue_splits_of l.initial.answers;
  view : queue_view_of l.answers ≡ queue_view_of l.initial.answers;
}
