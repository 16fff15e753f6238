-- What a loader takes and puts.
use Rattle.std.specs.Prelude.{◌≡◌, ℕ, ◌+◌, ◌⊎◌, List, [], ◌++◌, length, filter}
use Rattle.vt_outside.specs.declared.outside.File.{Ghosts as FileMeanings}
use Rattle.vt_tiles.specs.Shape.{Shape}
use Rattle.vt_queue.specs.declared.items.Request.{Request}
use Rattle.vt_queue.specs.declared.items.Loaded.{Loaded}
use Rattle.vt_queue.specs.declared.views.PassView.{PassView}
use Rattle.vt_queue.specs.PassViews.{pass_view}
use Rattle.vt_queue.specs.Orders.{items_of}
use Rattle.vt_queue.specs.Steps.{IsAtStep}
use Rattle.vt_load.specs.Readings.{is_readable, AreReadings}

-- of these requests those that a store can read were read from its file, each once and in their order, and their results put; of the
-- others nothing was read or put
pub record Answers {F : Type 0} (g : FileMeanings F) (s : Shape) (d : ℕ) (requests : List Request) (v w : PassView Loaded) (before after : F) : Type 0 where
  pub put : List (ℕ × Loaded)
  pub is : w ≡ pass_view v.shares v.known (v.put ++ put) v.took
  pub read : AreReadings g s d (filter (is_readable s d) requests) (items_of put) before after

-- requests were taken, and their results put
pub record Loads {F : Type 0} (g : FileMeanings F) (s : Shape) (d : ℕ) (asks asks' : PassView Request) (v w : PassView Loaded) (before after : F) : Type 0 where
  pub took : List (ℕ × Request)
  pub is : asks' ≡ pass_view asks.shares asks.known asks.put (asks.took ++ took)
  pub puts : Answers g s d (items_of took) v w before after

-- the queue of the requests was empty at a step, or as many were taken as it has room for
abbrev pub HasEndedLoading : ℕ → PassView Request → PassView Request → Type 0
HasEndedLoading capacity asks asks' = IsAtStep asks' [] ⊎ (length asks'.took ≡ length asks.took + capacity)
