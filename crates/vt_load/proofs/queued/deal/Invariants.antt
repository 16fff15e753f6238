use Rattle.std.proofs.Common.{◌≡◌, ◌+◌, ◌*◌, ◌/◌, ◌≤◌, ◌++◌, length, reverse}
use Rattle.std.specs.Prelude.{All}
use Rattle.std.specs.List.{range_with_len}
use Rattle.vt_queue.specs.PassViews.{all_shares, split_part}
use Rattle.vt_queue.specs.Queues.{queue_view_of, queue_splits_of, capacity_of}
use Rattle.vt_load.specs.QueuedLoaders.{AreOf, MayLoad, AreSplitOff, stores_of, numbers_of}
use Rattle.vt_load.proofs.queued.deal.Given as goal

abbrev pub invariant-loop-store : goal.invariant-loop-store
invariant-loop-store g l = record {
  passes : AreOf l.queues l.asks l.answers;
  count : length l.loaders.elements + length l.stores.elements ≡ length l.initial.stores.elements;
  asks : all_shares ≤ queue_splits_of l.asks + 1 + length l.loaders.elements * (all_shares / split_part + 1);
  asks_few : queue_splits_of l.asks ≤ all_shares;
  answers : all_shares ≤ queue_splits_of l.answers + 1 + length l.loaders.elements * (all_shares / split_part + 1);
  answers_few : queue_splits_of l.answers ≤ all_shares;
  room : length l.stores.elements ≤ l.loaders.spare;
  back : length l.loaders.elements ≤ l.stores.spare;
  reads : All (λ store. capacity_of l.queues.requests ≤ g.F.File.spare store.file) l.stores.elements;
  order : l.stores.elements ++ reverse (stores_of l.loaders.elements) ≡ l.initial.stores.elements;
  numbers : reverse (numbers_of l.loaders.elements) ≡ range_with_len (length l.stores.elements) (length l.loaders.elements);
  may : All (MayLoad g.F.File l.queues) l.loaders.elements;
  split : AreSplitOff (queue_view_of l.initial.asks) (queue_view_of l.asks) (queue_view_of l.initial.answers) (queue_view_of l.answers) l.loaders.elements;
}

abbrev pub decreases-loop-store : goal.decreases-loop-store
decreases-loop-store g l = length l.stores.elements
