-- A round of requests whose results are taken while the loaders are at work.
use Rattle.std.specs.Prelude.{◌≡◌, ℕ, ◌<◌, ◌≤◌, true, List, [], ◌++◌, length, slice_index_or, All, Option}
use Rattle.vt_outside.specs.declared.outside.File.{Ghosts as FileMeanings}
use Rattle.vt_tiles.specs.Shape.{Shape}
use Rattle.vt_queue.specs.declared.items.Loaded.{Loaded}
use Rattle.vt_queue.specs.declared.views.PassView.{PassView}
use Rattle.vt_queue.specs.PassViews.{pass_view, all_shares, all_joined}
use Rattle.vt_queue.specs.Orders.{items_of}
use Rattle.vt_queue.specs.Steps.{IsAtStep}
use Rattle.vt_load.specs.declared.queued.Queues.{Queues}
use Rattle.vt_load.specs.Readings.{is_readable}
use Rattle.vt_load.specs.QueuedLoaders.{QueuedView, asks_of, answers_of, HasLoaded, IsLoaderOf, AreSplitOff}
use Rattle.vt_load.specs.Rounds.{Round}

-- results were taken by a pass
abbrev pub with_taken : PassView Loaded → List (ℕ × Loaded) → PassView Loaded
with_taken v got = pass_view v.shares v.known v.put (v.took ++ got)

-- a round as IsRound has it, but that the results were taken before the passes were one again, at least as many as requests had been put
pub record IsStreamedRound {F : Type 0} (g : FileMeanings F) (q : Queues) (s : Shape) (d : ℕ) (known : Option (List ℕ)) (r : Round F) : Type 0 where
  pub asks_all : r.asks.shares ≡ all_shares
  pub no_takes : r.asks.took ≡ []
  pub answers_all : r.answers.shares ≡ all_shares
  pub no_results : r.answers.put ≡ []
  pub no_answers : r.answers.took ≡ []
  pub readable : All (λ request. is_readable s d request ≡ true) (items_of r.asks.put)
  pub split : AreSplitOff r.asks r.asks_left r.answers r.answers_left r.first
  pub loaders : All (IsLoaderOf g s d known) r.first
  pub number : length r.last ≡ length r.first
  pub loaded : (k : ℕ) (e : QueuedView F) → k < length r.first → HasLoaded g q (slice_index_or r.first k e) (slice_index_or r.last k e)
  pub asks_joined : r.asks_back ≡ all_joined r.asks_left (asks_of r.last)
  pub asks_at_step : IsAtStep r.asks_back r.unread
  pub got : List (ℕ × Loaded)
  pub enough : length r.asks.put ≤ length got
  pub results : r.results ≡ items_of got
  pub taken : r.answers_back ≡ with_taken r.answers_left got
  pub answers_joined : r.answers_end ≡ all_joined r.answers_back (answers_of r.last)
  pub answers_at_step : IsAtStep r.answers_end r.over
