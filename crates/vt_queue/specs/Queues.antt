-- What a caller says of a queue and its passes.
use Rattle.std.specs.Prelude.{◌≡◌, ℕ, ◌<◌, List, length}
use Rattle.crossbeam_queue.specs.Passes.{view, IsPassOf, ruled_capacity}
use Rattle.vt_queue.specs.declared.views.PassView.{PassView}
use Rattle.vt_queue.specs.declared.queue.Queue.{Queue}
use Rattle.vt_queue.specs.declared.queue.QueuePass.{QueuePass}
use Rattle.vt_queue.specs.Steps.{IsAtStep}

module _ {I : Type 0} where
  -- What a pass knows.
  abbrev pub queue_view_of : QueuePass I → PassView I
  queue_view_of p = view p.pass

  -- How often it, and those that are split off from it, may be split.
  abbrev pub queue_splits_of : QueuePass I → ℕ
  queue_splits_of p = p.splits

  -- It is a pass of this queue, with more shares than it may be split.
  pub record IsPassOfQueue (q : Queue I) (p : QueuePass I) : Type 0 where
    pub ring : IsPassOf q.ring p.pass
    pub splits : queue_splits_of p < (queue_view_of p).shares

  -- How many items a queue has room for.
  abbrev pub capacity_of : Queue I → ℕ
  capacity_of q = ruled_capacity q.ring

  -- At a step this queue was full, as far as a pass knows it.
  abbrev pub WasFull : Queue I → PassView I → Type 0
  WasFull q v = (left : List I) × (length left ≡ capacity_of q) × IsAtStep v left
