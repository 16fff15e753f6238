use Rattle.std.proofs.Common.{◌≡◌, ◌≤◌, ◌<◌, ◌++◌, length, reverse, List}
use Rattle.std.specs.Prelude.{All}
use Rattle.vt_queue.specs.PassViews.{all_joined}
use Rattle.vt_queue.specs.Steps.{IsAtStep}
use Rattle.vt_queue.specs.Queues.{queue_view_of}
use Rattle.vt_queue.specs.declared.items.Request.{Request}
use Rattle.vt_queue.specs.declared.items.Loaded.{Loaded}
use Rattle.vt_load.specs.QueuedLoaders.{AreOf, asks_of, answers_of, stores_of}
use Rattle.vt_load.proofs.queued.take_back.Given as goal

abbrev pub invariant-loop-loader : goal.invariant-loop-loader
invariant-loop-loader g l = record {
  passes : AreOf l.queues l.asks l.answers;
  crew : All (λ m. AreOf l.queues m.asks m.answers) l.loaders.elements;
  room : length l.loaders.elements ≤ l.stores.spare;
  asks : all_joined (queue_view_of l.asks) (asks_of l.loaders.elements) ≡ all_joined (queue_view_of l.initial.asks) (asks_of l.initial.loaders.elements);
  answers : all_joined (queue_view_of l.answers) (answers_of l.loaders.elements)
      ≡ all_joined (queue_view_of l.initial.answers) (answers_of l.initial.loaders.elements);
  order : l.stores.elements ++ reverse (stores_of l.loaders.elements) ≡ reverse (stores_of l.initial.loaders.elements);
  shrinks : length l.loaders.elements ≤ length l.initial.loaders.elements;
  asks_at_step : length l.loaders.elements < length l.initial.loaders.elements → (left : List Request) × IsAtStep (queue_view_of l.asks) left;
  answers_at_step : length l.loaders.elements < length l.initial.loaders.elements → (left : List Loaded) × IsAtStep (queue_view_of l.answers) left;
}

abbrev pub decreases-loop-loader : goal.decreases-loop-loader
decreases-loop-loader g l = length l.loaders.elements
