use Rattle.std.proofs.Common.{◌≡◌, ◌+◌, ◌≤◌, length}
use Rattle.vt_queue.specs.Queues.{queue_view_of, queue_splits_of, IsPassOfQueue, capacity_of}
use Rattle.vt_load.specs.Loads.{Loads}
use Rattle.vt_load.proofs.load.load.Given as goal

abbrev pub invariant-loop-left : goal.invariant-loop-left
invariant-loop-left g l = record {
  asks : IsPassOfQueue l.requests l.asks × (queue_splits_of l.asks ≡ queue_splits_of l.initial.asks);
  answers : IsPassOfQueue l.results l.answers × (queue_splits_of l.answers ≡ queue_splits_of l.initial.answers);
  shape : l.store.shape ≡ l.initial.store.shape;
  depth : l.store.depth ≡ l.initial.store.depth;
  loads : Loads g.F.File l.initial.store.shape l.initial.store.depth (queue_view_of l.initial.asks) (queue_view_of l.asks)
      (queue_view_of l.initial.answers) (queue_view_of l.answers) l.initial.store.file l.store.file;
  room : l.left ≤ g.F.File.spare l.store.file;
  count : length (queue_view_of l.asks).took + l.left ≡ length (queue_view_of l.initial.asks).took + capacity_of l.requests;
}

abbrev pub decreases-loop-left : goal.decreases-loop-left
decreases-loop-left g l = l.left
