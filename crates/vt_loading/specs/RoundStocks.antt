-- The requests, stores and buffers of a pass's loaders, whose results are taken while they work.
use Rattle.std.specs.Prelude.{◌≡◌, ℕ, ◌+◌, ◌≤◌, Option, List, [], length, reverse, All}
use Rattle.std.specs.List.{range_with_len}
use Rattle.vt_outside.specs.Lists.{ListView}
use Rattle.vt_outside.specs.declared.outside.File.{Ghosts as FileMeanings}
use Rattle.vt_tiles.specs.Shape.{Shape}
use Rattle.vt_tiles.specs.Format.{tile_length}
use Rattle.vt_tiles.specs.StoreViews.{StoreView}
use Rattle.vt_requests.specs.PlanTypes.batches.Planned.{Planned}
use Rattle.vt_queue.specs.declared.items.Request.{Request}
use Rattle.vt_queue.specs.declared.items.Loaded.{Loaded}
use Rattle.vt_queue.specs.declared.queue.QueuePass.{QueuePass}
use Rattle.vt_queue.specs.PassViews.{all_shares, first_view}
use Rattle.vt_queue.specs.Queues.{queue_view_of, queue_splits_of, capacity_of}
use Rattle.vt_load.specs.declared.queued.Queues.{Queues}
use Rattle.vt_load.specs.QueuedLoaders.{QueuedView, AreOf, IsLoaderOf, AreSplitOff, stores_of, numbers_of}
use Rattle.vt_requests.specs.MachineTypes.crew.Crew.{Crew}
use Rattle.vt_requests.specs.BatchRounds.{ArePut}
use Rattle.vt_requests.specs.Sizes.{AreSized}
use Rattle.vt_queue.specs.Steps.{IsAtStep}

-- what the loaders of a pass work with: the pass of the requests, room for the loaders and for their stores, and the buffers
pub record RoundStockView (F : Type 0) : Type 0 where
  pub asks : QueuePass Request
  pub loaders : ListView (QueuedView F)
  pub stores : ListView (StoreView F)
  pub buffers : ListView (ListView ℕ)

-- two queues are new, with room for so many items, and these are their passes
pub record AreNew (capacity : ℕ) (q : Queues) (asks : QueuePass Request) (answers : QueuePass Loaded) : Type 0 where
  pub passes : AreOf q asks answers
  pub room : capacity_of q.requests ≡ capacity
  pub answers_room : capacity_of q.results ≡ capacity
  pub no_asks : queue_view_of asks ≡ first_view
  pub no_answers : queue_view_of answers ≡ first_view
  pub asks_splits : queue_splits_of asks + 1 ≡ all_shares
  pub answers_splits : queue_splits_of answers + 1 ≡ all_shares

-- there is room for a crew's loaders, and for so many entries a buffer of this size
pub record HasPlaces {F : Type 0} (r : RoundStockView F) (size : ℕ) (crew : Crew) (entries : ℕ) : Type 0 where
  pub no_loaders : r.loaders.elements ≡ []
  pub loaders : crew.loaders ≤ r.loaders.spare
  pub buffers : entries ≤ length r.buffers.elements
  pub sizes : AreSized size r.buffers.elements

-- two queues are new and have room for a crew's batches, and there is room for its loaders and for so many entries
pub record IsSetUp {F : Type 0} (q : Queues) (r : RoundStockView F) (answers : QueuePass Loaded) (size : ℕ) (crew : Crew) (entries : ℕ) : Type 0 where
  pub new : AreNew crew.batch q r.asks answers
  pub places : HasPlaces r size crew entries

-- requests for a batch were put into new queues, and there is room for the loaders of a crew, and to have the buffers back
pub record IsAsked {F : Type 0} (q : Queues) (r : RoundStockView F) (answers : QueuePass Loaded) (s : Shape) (d : ℕ) (crew : Crew)
    (batch : List Planned) : Type 0 where
  pub passes : AreOf q r.asks answers
  pub capacity : capacity_of q.requests ≡ crew.batch
  pub answers_capacity : capacity_of q.results ≡ crew.batch
  pub put : ArePut s d batch (length batch) (queue_view_of r.asks)
  pub no_answers : queue_view_of answers ≡ first_view
  pub asks_splits : queue_splits_of r.asks + 1 ≡ all_shares
  pub answers_splits : queue_splits_of answers + 1 ≡ all_shares
  pub no_loaders : r.loaders.elements ≡ []
  pub loaders : crew.loaders ≤ r.loaders.spare
  pub buffers : length batch ≤ r.buffers.spare
  pub sizes : AreSized (tile_length s d) r.buffers.elements

-- a loader was made of each store, with its number, and with passes that were split off for it
pub record IsDealt {F : Type 0} (g : FileMeanings F) (q : Queues) (r r' : RoundStockView F) (answers answers' : QueuePass Loaded)
    (stores : List (StoreView F)) (loaders : List (QueuedView F)) : Type 0 where
  pub passes : AreOf q r'.asks answers'
  pub no_stores : r'.stores.elements ≡ []
  pub room : length loaders ≤ r'.stores.spare
  pub stores_are : reverse (stores_of loaders) ≡ stores
  pub numbers_are : reverse (numbers_of loaders) ≡ range_with_len 0 (length stores)
  pub of : (s : Shape) (d : ℕ) (known : Option (List ℕ)) → All (λ store. (store.shape ≡ s) × (store.depth ≡ d) × (g.bytes store.file ≡ known)) stores
      → All (IsLoaderOf g s d known) loaders
  pub split : AreSplitOff (queue_view_of r.asks) (queue_view_of r'.asks) (queue_view_of answers) (queue_view_of answers') loaders
  pub buffers : r'.buffers ≡ r.buffers

-- nothing is left in two queues, by these passes of them, which are whole: all that was put was taken
pub record AreEmptied (q : Queues) (asks : QueuePass Request) (answers : QueuePass Loaded) : Type 0 where
  pub passes : AreOf q asks answers
  pub all_asks : (queue_view_of asks).shares ≡ all_shares
  pub all_answers : (queue_view_of answers).shares ≡ all_shares
  pub no_asks : IsAtStep (queue_view_of asks) []
  pub no_answers : IsAtStep (queue_view_of answers) []
