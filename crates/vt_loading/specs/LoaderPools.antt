-- What the loaders of a pass are done with, whoever streams their results.
use Rattle.std.specs.Prelude.{◌≡◌, ℕ, ◌≤◌, List, [], length, reverse, All}
use Rattle.vt_tiles.specs.Depths.{IsDepth}
use Rattle.vt_outside.specs.declared.outside.File.{Ghosts as FileMeanings}
use Rattle.vt_tiles.specs.Shape.{Shape}
use Rattle.vt_requests.specs.JournalTypes.changes.Event.{Event}
use Rattle.vt_tiles.specs.Format.{tile_length}
use Rattle.vt_tiles.specs.StoreViews.{StoreView, IsStoreIfKnown}
use Rattle.vt_requests.specs.PlanTypes.batches.Planned.{Planned}
use Rattle.vt_queue.specs.declared.queue.QueuePass.{QueuePass}
use Rattle.vt_queue.specs.declared.items.Loaded.{Loaded}
use Rattle.vt_queue.specs.Queues.{queue_view_of}
use Rattle.vt_load.specs.declared.queued.Queues.{Queues}
use Rattle.vt_load.specs.QueuedLoaders.{QueuedView, AreOf, stores_of}
use Rattle.vt_load.specs.Results.{IsGood}
use Rattle.vt_requests.specs.MachineTypes.crew.Crew.{Crew}
use Rattle.vt_requests.specs.Crews.{IsCrew}
use Rattle.vt_requests.specs.Outcomes.{IsOutcome}
use Rattle.vt_requests.specs.Requests.{AreReadFor}
use Rattle.vt_requests.specs.Machines.{files_of, known_bytes, AreStoresFor}
use Rattle.vt_requests.specs.BatchRounds.{BegunRound as Round, IsEndedRound, IsResultOf, AreLossesOf, result_events}
use Rattle.vt_requests.specs.Sizes.{AreSized}
use Rattle.vt_requests.specs.declared.report.StreamReport.{StreamReport}
use Rattle.vt_requests.specs.TakenResults.{Streams}
use Rattle.vt_requests.specs.BlankReports.{IsBlank}
use Rattle.vt_loading.specs.RoundStocks.{RoundStockView, IsSetUp, IsAsked, IsDealt}
use Rattle.vt_loading.specs.SameStores.{AreSameStores}

-- how the texture is cut into pages, how many bytes its samples have, the crew, the loaders' stores, and what the loaders are made with
pub record LoaderPoolView (F : Type 0) : Type 0 where
  pub shape : Shape
  pub depth : ℕ
  pub crew : Crew
  pub stores : List (StoreView F)
  pub round : RoundStockView F

-- what holds of it between passes
pub record IsLoaderPool {F : Type 0} (g : FileMeanings F) (k : LoaderPoolView F) : Type 0 where
  pub crew : IsCrew k.crew
  pub depth : IsDepth k.depth
  pub stores : AreStoresFor g k.shape k.depth k.crew.loaders k.stores
  pub known : IsStoreIfKnown (known_bytes g k.stores) k.shape k.depth
  pub buffers : AreSized (tile_length k.shape k.depth) k.round.buffers.elements

-- there is room for the loaders of a batch, which is no longer than the crew's, and for what is told of it; and this holds of the queues
pub record IsStreamFor {F : Type 0} (g : FileMeanings F) (report : StreamReport) (k : LoaderPoolView F) (batch : List Planned) (Queued : Type 0)
    : Type 0 where
  pub pool : IsLoaderPool g k
  pub few : length batch ≤ k.crew.batch
  pub blank : IsBlank (length batch) report
  pub no_events : report.events.elements ≡ []
  pub reads : All (λ store. k.crew.batch ≤ g.spare store.file) k.stores
  pub queued : Queued

-- the queues are new, and the requests are still to be put
abbrev pub IsPreparedStream : {F : Type 0} → FileMeanings F → Queues → QueuePass Loaded → StreamReport → LoaderPoolView F → List Planned → Type 0
IsPreparedStream g q answers report k batch =
    IsStreamFor g report k batch (IsSetUp q k.round answers (tile_length k.shape k.depth) k.crew (length batch))

-- the requests were put
abbrev pub IsAskedStream : {F : Type 0} → FileMeanings F → Queues → QueuePass Loaded → StreamReport → LoaderPoolView F → List Planned → Type 0
IsAskedStream g q answers report k batch = IsStreamFor g report k batch (IsAsked q k.round answers k.shape k.depth k.crew batch)

-- a pool is the same but for the room of its stores, and for what its loaders are made with
pub record IsSameStream {F : Type 0} (g : FileMeanings F) (before after : LoaderPoolView F) : Type 0 where
  pub shape : after.shape ≡ before.shape
  pub depth : after.depth ≡ before.depth
  pub crew : after.crew ≡ before.crew
  pub stores : AreSameStores g before.stores after.stores

-- a loader was made of each store, with passes of the queues that were split off
pub record AreLoadersOut {F : Type 0} (g : FileMeanings F) (q : Queues) (k l : LoaderPoolView F) (answers answers' : QueuePass Loaded)
    (loaders : List (QueuedView F)) : Type 0 where
  pub rest : l ≡ record k { stores = []; round = l.round }
  pub dealt : IsDealt g q k.round l.round answers answers' k.stores loaders

-- how the work of the loaders began: their round, and the pass of the results
pub record StreamBegun (F : Type 0) : Type 0 where
  pub round : Round F
  pub answers : QueuePass Loaded

-- the pool before its loaders were made
abbrev pub stream_before : {F : Type 0} → LoaderPoolView F → StreamBegun F → LoaderPoolView F
stream_before k b = record k { stores = reverse (stores_of b.round.first) }

-- the loaders have ended their round, and a result was taken for each entry of the batch: they may be taken back
pub record MayEndStream {F : Type 0} (g : FileMeanings F) (q : Queues) (k : LoaderPoolView F) (batch : List Planned) (loaders : List (QueuedView F))
    (answers : QueuePass Loaded) (report : StreamReport) (b : StreamBegun F) : Type 0 where
  pub pool : IsLoaderPool g (stream_before k b)
  pub took : Streams (length batch) (queue_view_of b.answers) (queue_view_of answers) report.taken.elements report.results.elements
  pub all : length report.results.elements ≡ length batch
  pub losses : AreLossesOf batch report.results.elements report.losses.elements
  pub ended : IsEndedRound g q k.shape batch (queue_view_of k.round.asks) (queue_view_of b.answers) loaders b.round
  pub depth_is : b.round.depth ≡ k.depth
  pub known_is : b.round.known ≡ known_bytes g (reverse (stores_of b.round.first))
  pub no_stores : k.stores ≡ []
  pub passes : AreOf q k.round.asks answers
  pub loaders_of : All (λ l. AreOf q l.asks l.answers) loaders
  pub some : 1 ≤ length loaders
  pub stores_room : length loaders ≤ k.round.stores.spare
  pub buffers : length batch ≤ k.round.buffers.spare

-- the loaders were taken back: each entry was read once, and the results are those of the entries
pub record HasEndedStream {F : Type 0} (g : FileMeanings F) (k l : LoaderPoolView F) (batch : List Planned) (report : StreamReport)
    (b : StreamBegun F) : Type 0 where
  pub rest : l ≡ record k { stores = l.stores; round = l.round }
  pub known : known_bytes g l.stores ≡ known_bytes g (stream_before k b).stores
  pub pool : IsLoaderPool g l
  pub read : AreReadFor k.shape k.depth batch report.losses.elements (files_of g (stream_before k b).stores) (files_of g l.stores)
  pub entries : All (IsResultOf batch) report.results.elements
  pub good : All (IsGood (known_bytes g l.stores) k.shape k.depth) report.results.elements
  pub outcome : (events : List Event) → events ≡ result_events batch report.results.elements → IsOutcome batch report.losses.elements events
