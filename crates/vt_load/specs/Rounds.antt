-- A round of requests through both queues: put before loaders begin, answered by them, and taken once they are done.
use Rattle.std.specs.Prelude.{◌≡◌, ℕ, ◌<◌, true, List, [], length, map, slice_index_or, All, IsPermutation, Option}
use Rattle.vt_outside.specs.declared.outside.File.{Ghosts as FileMeanings}
use Rattle.vt_tiles.specs.Shape.{Shape}
use Rattle.vt_queue.specs.declared.items.Request.{Request}
use Rattle.vt_queue.specs.declared.items.Loaded.{Loaded}
use Rattle.vt_queue.specs.declared.views.PassView.{PassView}
use Rattle.vt_queue.specs.PassViews.{all_shares, all_joined}
use Rattle.vt_queue.specs.Orders.{items_of}
use Rattle.vt_queue.specs.Steps.{IsAtStep}
use Rattle.vt_load.specs.declared.queued.Queues.{Queues}
use Rattle.vt_load.specs.Readings.{is_readable}
use Rattle.vt_load.specs.Results.{ticket_and_page, answered_by, IsGood, IsReadFor}
use Rattle.vt_load.specs.Together.{Portion, all_put}
use Rattle.vt_load.specs.QueuedLoaders.{QueuedView, asks_of, answers_of, HasLoaded, IsLoaderOf, AreSplitOff, Collects}

-- a round: what the pass of each queue knew at first, when passes for the loaders were split off, and when these were one with it again,
-- and that of the results once they were taken; the loaders when they began and when they had ended; the results that were taken, in their
-- order; and what was left in the queues
pub record Round (F : Type 0) : Type 0 where
  pub asks : PassView Request
  pub asks_left : PassView Request
  pub asks_back : PassView Request
  pub answers : PassView Loaded
  pub answers_left : PassView Loaded
  pub answers_back : PassView Loaded
  pub answers_end : PassView Loaded
  pub first : List (QueuedView F)
  pub last : List (QueuedView F)
  pub results : List Loaded
  pub unread : List Request
  pub over : List Loaded

-- both passes were whole and nothing had been taken, nor any result put; each loader read a store that is cut in this way, and each request
-- is one that it can read; and as many results were taken as requests had been put
pub record IsRound {F : Type 0} (g : FileMeanings F) (q : Queues) (s : Shape) (d : ℕ) (known : Option (List ℕ)) (r : Round F) : Type 0 where
  pub asks_all : r.asks.shares ≡ all_shares
  pub no_takes : r.asks.took ≡ []
  pub answers_all : r.answers.shares ≡ all_shares
  pub no_results : r.answers.put ≡ []
  pub no_answers : r.answers.took ≡ []
  pub readable : All (λ request. is_readable s d request ≡ true) (items_of r.asks.put)
  pub split : AreSplitOff r.asks r.asks_left r.answers r.answers_left r.first
  pub loaders : All (IsLoaderOf g s d known) r.first
  pub number : length r.last ≡ length r.first
  pub loaded : (k : ℕ) (e : QueuedView F) → k < length r.first → HasLoaded g q (slice_index_or r.first k e) (slice_index_or r.last k e)
  pub asks_joined : r.asks_back ≡ all_joined r.asks_left (asks_of r.last)
  pub asks_at_step : IsAtStep r.asks_back r.unread
  pub answers_joined : r.answers_back ≡ all_joined r.answers_left (answers_of r.last)
  pub collected : Collects (length r.asks.put) r.answers_back r.answers_end [] r.results
  pub answers_at_step : IsAtStep r.answers_end r.over

-- each request was answered once: the results are those of the requests, each as often, and good; nothing is left in either queue; and
-- each loader's file was read for results of its own, which together are those that were taken
pub record AreServed {F : Type 0} (g : FileMeanings F) (s : Shape) (d : ℕ) (known : Option (List ℕ)) (r : Round F) : Type 0 where
  pub each : IsPermutation (map ticket_and_page (items_of r.asks.put)) (map answered_by r.results)
  pub good : All (IsGood known s d) r.results
  pub none_unread : r.unread ≡ []
  pub none_over : r.over ≡ []
  pub portions : List (Portion F)
  pub befores : map (λ (p : Portion F). p.before) portions ≡ map (λ (l : QueuedView F). l.loader.store.file) r.first
  pub afters : map (λ (p : Portion F). p.after) portions ≡ map (λ (l : QueuedView F). l.loader.store.file) r.last
  pub files : All (λ p. IsReadFor g s d (items_of p.put) p.before p.after) portions
  pub among : IsPermutation (items_of (all_put portions)) r.results
