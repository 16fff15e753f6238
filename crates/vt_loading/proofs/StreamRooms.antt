-- What gets room for the loaders of a batch: their pool.
use Rattle.std.proofs.Common.{◌≡◌, ℕ, ◌≤◌, List, [], length, Option, refl, sym, subst}
use Rattle.std.specs.Prelude.{All}
use Rattle.vt_outside.specs.declared.outside.File.{Ghosts as FileMeanings}
use Rattle.vt_tiles.specs.Depths.{IsDepth}
use Rattle.vt_tiles.specs.Shape.{Shape}
use Rattle.vt_tiles.specs.Format.{tile_length}
use Rattle.vt_tiles.specs.StoreViews.{StoreView, IsStoreIfKnown}
use Rattle.vt_requests.specs.PlanTypes.batches.Planned.{Planned}
use Rattle.vt_queue.specs.declared.queue.QueuePass.{QueuePass}
use Rattle.vt_queue.specs.declared.items.Loaded.{Loaded}
use Rattle.vt_load.specs.declared.queued.Queues.{Queues}
use Rattle.vt_requests.specs.MachineTypes.crew.Crew.{Crew}
use Rattle.vt_requests.specs.Crews.{IsCrew}
use Rattle.vt_requests.specs.Machines.{AreStoresFor}
use Rattle.vt_requests.specs.declared.report.StreamReport.{StreamReport}
use Rattle.vt_requests.specs.BlankReports.{IsBlank}
use Rattle.vt_loading.specs.RoundStocks.{IsSetUp, IsAsked}
use Rattle.vt_loading.specs.SameStores.{AreSameStores}
use Rattle.vt_loading.proofs.StoreRooms.{same_none, known_same, stores_for}
use Rattle.vt_loading.specs.LoaderPools.{LoaderPoolView, IsLoaderPool, IsPreparedStream, IsAskedStream, IsSameStream}

module _ {F : Type 0} (g : FileMeanings F) where
  -- a pool with other stores is the same
  pub same_stores : (j k : LoaderPoolView F) (stores : List (StoreView F)) → j ≡ k → AreSameStores g j.stores stores
      → IsSameStream g k (record j { stores = stores })
  same_stores j k stores e h = subst (λ x. IsSameStream g x (record j { stores = stores })) e (record {
    shape = refl;
    depth = refl;
    crew = refl;
    stores = h;
  })

  pub same_stream : (k : LoaderPoolView F) → IsSameStream g k k
  same_stream k = record { shape = refl; depth = refl; crew = refl; stores = same_none g k.stores }

  -- and so it is with other requests
  pub same_asked : (k l m : LoaderPoolView F) → IsSameStream g k l → m ≡ record l { round = m.round } → IsSameStream g k m
  same_asked k l m h rest = subst (IsSameStream g k) (sym rest) (record { shape = h.shape; depth = h.depth; crew = h.crew; stores = h.stores })

  -- it stays whole with more room
  pub pool_still : (k l : LoaderPoolView F) → IsSameStream g k l → IsLoaderPool g k
      → All (λ b. length b.elements ≡ tile_length l.shape l.depth) l.round.buffers.elements → IsLoaderPool g l
  pool_still k l h pool buffers = record {
    crew = subst IsCrew (sym h.crew) pool.crew;
    depth = subst IsDepth (sym h.depth) pool.depth;
    stores = stores_for g l.shape l.depth l.crew.loaders k.stores l.stores h.stores
        (subst (λ (x : Shape × ℕ × Crew). AreStoresFor g x.0 x.1 x.2.loaders k.stores) (λ i. (sym h.shape i, sym h.depth i, sym h.crew i)) pool.stores);
    known = subst (λ (x : Option (List ℕ) × Shape × ℕ). IsStoreIfKnown x.0 x.1 x.2)
        (λ i. (sym (known_same g k.stores l.stores h.stores) i, sym h.shape i, sym h.depth i)) pool.known;
    buffers = buffers;
  }

  pub prepared_with : (answers : QueuePass Loaded) (report : StreamReport) (q : Queues) (k l : LoaderPoolView F) (batch : List Planned)
      → IsSameStream g k l → IsLoaderPool g k → length batch ≤ k.crew.batch → IsBlank (length batch) report → report.events.elements ≡ []
      → All (λ store. l.crew.batch ≤ g.spare store.file) l.stores → IsSetUp q l.round answers (tile_length l.shape l.depth) l.crew (length batch)
      → IsPreparedStream g q answers report l batch
  prepared_with answers report q k l batch h pool few blank no_events reads set_up = record {
    pool = pool_still k l h pool set_up.places.sizes;
    few = subst (λ (crew : Crew). length batch ≤ crew.batch) (sym h.crew) few;
    blank = blank;
    no_events = no_events;
    reads = reads;
    queued = set_up;
  }

  -- a pool that was prepared has asked once the requests were put
  pub once_asked : (q : Queues) (answers : QueuePass Loaded) (report : StreamReport) (k l : LoaderPoolView F) (batch : List Planned)
      → l ≡ record k { round = l.round } → IsPreparedStream g q answers report k batch
      → IsAsked q l.round answers k.shape k.depth k.crew batch → IsAskedStream g q answers report l batch
  once_asked q answers report k l batch rest h asked = subst (λ (x : LoaderPoolView F). IsAskedStream g q answers report x batch) (sym rest) (record {
    pool = record {
      crew = h.pool.crew;
      depth = h.pool.depth;
      stores = h.pool.stores;
      known = h.pool.known;
      buffers = asked.sizes;
    };
    few = h.few;
    blank = h.blank;
    no_events = h.no_events;
    reads = h.reads;
    queued = asked;
  })
