-- A batch whose tiles are read by a round of requests.
use Rattle.std.specs.Prelude.{◌≡◌, ℕ, ◌<◌, Bool, true, Option, Some, None, List, [], length, map, slice_get, slice_index_or, flat_map, All}
use Rattle.std.specs.List.{range_with_len}
use Rattle.vt_table.specs.Depths.{IsDepth}
use Rattle.vt_outside.specs.declared.outside.File.{Ghosts as FileMeanings}
use Rattle.vt_table.specs.Shape.{Shape}
use Rattle.vt_table.specs.JournalTypes.changes.Event.{Event}
use Rattle.vt_machine.specs.PlanTypes.batches.Planned.{Planned}
use Rattle.vt_load.specs.QueueTypes.items.Request.{Request}
use Rattle.vt_load.specs.QueueTypes.items.Loaded.{Loaded}
use Rattle.vt_load.specs.QueueTypes.views.PassView.{PassView}
use Rattle.vt_load.specs.PassViews.{all_shares}
use Rattle.vt_load.specs.Orders.{items_of}
use Rattle.vt_load.specs.declared.queued.Queues.{Queues}
use Rattle.vt_load.specs.Readings.{is_lost, is_readable}
use Rattle.vt_load.specs.Results.{ticket_and_page}
use Rattle.vt_load.specs.QueuedLoaders.{QueuedView, HasLoaded, IsLoaderOf, AreSplitOff}
use Rattle.vt_machine.specs.Outcomes.{group_if}

-- the page of an entry, if there is one
abbrev pub page_if : Option Planned → ℕ
page_if None = 0
page_if (Some e) = e.page

-- what the request of an entry asks for, by its place: the place is the ticket, with the entry's page
abbrev pub entry_asks : List Planned → ℕ → ℕ × ℕ
entry_asks batch ticket = (ticket, page_if (slice_get batch ticket))

-- the requests of a batch: one for each entry, in their order
abbrev pub AreRequestsOf : List Planned → List Request → Type 0
AreRequestsOf batch requests = map ticket_and_page requests ≡ map (entry_asks batch) (range_with_len 0 (length batch))

-- the tickets of results, in the order in which they came
abbrev pub tickets_of : List Loaded → List ℕ
tickets_of results = map (λ result. result.request.ticket) results

-- the events of a result: the group of its entry, lost or read
abbrev pub result_group : List Planned → Loaded → List Event
result_group batch result = group_if (slice_get batch result.request.ticket) (is_lost result.outcome)

-- the events of results, in the order in which they came
abbrev pub result_events : List Planned → List Loaded → List Event
result_events batch results = flat_map (result_group batch) results

-- it is told of each entry whether its result is lost
pub record AreLossesOf (batch : List Planned) (results : List Loaded) (losses : List Bool) : Type 0 where
  pub reported : length losses ≡ length batch
  pub each : All (λ result. slice_index_or losses result.request.ticket true ≡ is_lost result.outcome) results

-- a result is that of an entry
pub record IsResultOf (batch : List Planned) (result : Loaded) : Type 0 where
  pub inside : result.request.ticket < length batch
  pub page : result.request.page ≡ page_if (slice_get batch result.request.ticket)

-- The requests for the first entries of a batch were put through a whole pass, and nothing was taken.
pub record ArePut (s : Shape) (d : ℕ) (batch : List Planned) (n : ℕ) (v : PassView Request) : Type 0 where
  pub whole : v.shares ≡ all_shares
  pub no_takes : v.took ≡ []
  pub count : length v.put ≡ n
  pub requests : map ticket_and_page (items_of v.put) ≡ map (entry_asks batch) (range_with_len 0 n)
  pub readable : All (λ request. is_readable s d request ≡ true) (items_of v.put)

-- how a round of requests for a batch began: what the pass of each queue knew before passes for the loaders were split off, and the loaders;
-- how many bytes a sample has, and the bytes of the store, where they are known
pub record BegunRound (F : Type 0) : Type 0 where
  pub asks : PassView Request
  pub answers : PassView Loaded
  pub first : List (QueuedView F)
  pub depth : ℕ
  pub known : Option (List ℕ)

-- The loaders of a round for a batch have ended: passes of the two queues were split off for them, and these have what was left.
pub record IsEndedRound {F : Type 0} (g : FileMeanings F) (q : Queues) (s : Shape) (batch : List Planned) (asks : PassView Request)
    (answers : PassView Loaded) (last : List (QueuedView F)) (b : BegunRound F) : Type 0 where
  pub asked : ArePut s b.depth batch (length batch) b.asks
  pub answers_all : b.answers.shares ≡ all_shares
  pub no_results : b.answers.put ≡ []
  pub no_answers : b.answers.took ≡ []
  pub split : AreSplitOff b.asks asks b.answers answers b.first
  pub depth_is : IsDepth b.depth
  pub loaders : All (IsLoaderOf g s b.depth b.known) b.first
  pub number : length last ≡ length b.first
  pub loaded : (k : ℕ) (e : QueuedView F) → k < length b.first → HasLoaded g q (slice_index_or b.first k e) (slice_index_or last k e)
