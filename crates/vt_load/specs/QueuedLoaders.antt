-- A loader with its passes of the two queues, and how several of them are made of a pass and made one again.
use Rattle.std.specs.Prelude.{◌≡◌, ℕ, ◌+◌, ◌≤◌, List, [], ◌++◌, length, map, All, Option}
use Rattle.vt_outside.specs.declared.outside.File.{Ghosts as FileMeanings}
use Rattle.vt_tiles.specs.Shape.{Shape}
use Rattle.vt_tiles.specs.StoreViews.{StoreView}
use Rattle.vt_queue.specs.declared.items.Request.{Request}
use Rattle.vt_queue.specs.declared.items.Loaded.{Loaded}
use Rattle.vt_queue.specs.declared.views.PassView.{PassView}
use Rattle.vt_queue.specs.declared.queue.QueuePass.{QueuePass}
use Rattle.vt_queue.specs.PassViews.{pass_view, shares_of}
use Rattle.vt_queue.specs.Queues.{queue_view_of, IsPassOfQueue, capacity_of}
use Rattle.vt_load.specs.declared.queued.Queues.{Queues}
use Rattle.vt_load.specs.Loaders.{LoaderView, with_file}
use Rattle.vt_load.specs.Loads.{Loads, HasEndedLoading}

-- a loader, and its passes of the queue of the requests and of that of the results
pub record QueuedView (F : Type 0) : Type 0 where
  pub loader : LoaderView F
  pub asks : QueuePass Request
  pub answers : QueuePass Loaded

-- the passes are of these queues
pub record AreOf (q : Queues) (asks : QueuePass Request) (answers : QueuePass Loaded) : Type 0 where
  pub requests : IsPassOfQueue q.requests asks
  pub results : IsPassOfQueue q.results answers

module _ {F : Type 0} where
  -- what the passes of loaders know of the requests
  abbrev pub asks_of : List (QueuedView F) → List (PassView Request)
  asks_of loaders = map (λ l. queue_view_of l.asks) loaders

  -- and of the results
  abbrev pub answers_of : List (QueuedView F) → List (PassView Loaded)
  answers_of loaders = map (λ l. queue_view_of l.answers) loaders

  -- the stores that loaders read
  abbrev pub stores_of : List (QueuedView F) → List (StoreView F)
  stores_of loaders = map (λ l. l.loader.store) loaders

  -- the numbers of loaders, by which a gate knows them
  abbrev pub numbers_of : List (QueuedView F) → List ℕ
  numbers_of loaders = map (λ l. l.loader.loader) loaders

  -- its passes are of these queues, and its file can note as many reads as the queue of the requests has room for
  pub record MayLoad (g : FileMeanings F) (q : Queues) (l : QueuedView F) : Type 0 where
    pub passes : AreOf q l.asks l.answers
    pub room : capacity_of q.requests ≤ g.spare l.loader.store.file

  -- it took requests and put their results
  pub record HasLoaded (g : FileMeanings F) (q : Queues) (l m : QueuedView F) : Type 0 where
    pub passes : AreOf q m.asks m.answers
    pub loads : Loads g l.loader.store.shape l.loader.store.depth (queue_view_of l.asks) (queue_view_of m.asks) (queue_view_of l.answers) (queue_view_of m.answers)
        l.loader.store.file m.loader.store.file
    pub ended : HasEndedLoading (capacity_of q.requests) (queue_view_of l.asks) (queue_view_of m.asks)
    pub same : m.loader ≡ with_file l.loader m.loader.store.file

  -- it reads a store that is cut in this way, has samples of so many bytes and tells these bytes
  pub record IsLoaderOf (g : FileMeanings F) (s : Shape) (d : ℕ) (known : Option (List ℕ)) (l : QueuedView F) : Type 0 where
    pub shape : l.loader.store.shape ≡ s
    pub depth : l.loader.store.depth ≡ d
    pub known_is : g.bytes l.loader.store.file ≡ known

  -- it has taken and put nothing yet
  pub record IsNew (l : QueuedView F) : Type 0 where
    pub no_takes : (queue_view_of l.asks).took ≡ []
    pub no_asks : (queue_view_of l.asks).put ≡ []
    pub no_results : (queue_view_of l.answers).put ≡ []
    pub no_answers : (queue_view_of l.answers).took ≡ []

-- Passes of the two queues were split off for loaders, which have taken and put nothing: the passes that are left have what they put and
-- took, and together all have as many shares as before.
pub record AreSplitOff {F : Type 0} (asks asks' : PassView Request) (answers answers' : PassView Loaded) (loaders : List (QueuedView F)) : Type 0 where
  pub asks_are : asks' ≡ pass_view asks'.shares asks.known asks.put asks.took
  pub asks_shares : asks'.shares + shares_of (asks_of loaders) ≡ asks.shares
  pub answers_are : answers' ≡ pass_view answers'.shares answers.known answers.put answers.took
  pub answers_shares : answers'.shares + shares_of (answers_of loaders) ≡ answers.shares
  pub new : All IsNew loaders

-- so many results were taken, and put behind those of a list
pub record Collects (n : ℕ) (v w : PassView Loaded) (old new : List Loaded) : Type 0 where
  pub got : List (ℕ × Loaded)
  pub is : w ≡ pass_view v.shares v.known v.put (v.took ++ got)
  pub list : new ≡ old ++ map (λ e. e.1) got
  pub count : length got ≡ n
