-- The loaders of a pass that may be taken back, whoever streamed their results.
use Rattle.std.specs.Prelude.{◌≡◌, ℕ, ◌≤◌, List, length, reverse}
use Rattle.std.proofs.Common.{refl, subst, sym, ap, ◌∙◌, arith}
use Rattle.std.proofs.lemmas.List.{length-reverse, length-map}
use Rattle.vt_outside.specs.Lists.{ListView}
use Rattle.vt_outside.specs.declared.outside.File.{Ghosts as FileMeanings}
use Rattle.vt_tiles.specs.Format.{tile_length}
use Rattle.vt_tiles.specs.StoreViews.{StoreView}
use Rattle.vt_requests.specs.PlanTypes.batches.Planned.{Planned}
use Rattle.vt_queue.specs.declared.queue.QueuePass.{QueuePass}
use Rattle.vt_queue.specs.declared.items.Loaded.{Loaded}
use Rattle.vt_queue.specs.Queues.{IsPassOfQueue, queue_view_of}
use Rattle.vt_load.specs.declared.queued.Queues.{Queues}
use Rattle.vt_load.specs.QueuedLoaders.{QueuedView, HasLoaded, stores_of}
use Rattle.vt_requests.specs.All.{AllDid}
use Rattle.vt_requests.specs.Machines.{known_bytes}
use Rattle.vt_requests.specs.BatchRounds.{BegunRound as Round, AreLossesOf}
use Rattle.vt_requests.specs.Sizes.{AreSized}
use Rattle.vt_requests.specs.declared.report.StreamReport.{StreamReport}
use Rattle.vt_requests.specs.TakenResults.{Streams}
use Rattle.vt_loading.specs.RoundStocks.{IsDealt}
use Rattle.vt_loading.specs.LoaderPools.{LoaderPoolView, IsLoaderPool, IsAskedStream, AreLoadersOut, StreamBegun, MayEndStream}

-- loaders were made of the stores of a pool
module _ {F : Type 0} (g : FileMeanings F) (was b : QueuePass Loaded) (k : LoaderPoolView F) (a : List (QueuedView F)) where
  -- how the round of the loaders began
  unfoldable pub round : Round F
  round = record {
    asks = queue_view_of k.round.asks;
    answers = queue_view_of was;
    first = a;
    depth = k.depth;
    known = known_bytes g k.stores;
  }

  -- how the loaders' work began
  unfoldable pub stream_begun : StreamBegun F
  stream_begun = record { round = round; answers = b }

-- they have loaded, and a result was taken for each entry of the batch
module _ {F : Type 0} (g : FileMeanings F) (q : Queues) (was b d : QueuePass Loaded) (k l : LoaderPoolView F) (batch : List Planned)
    (given report : StreamReport) (a c : List (QueuedView F)) (out : AreLoadersOut g q k l was b a) (asked : IsAskedStream g q was given k batch)
    (number : length c ≡ length a) (did_load : AllDid (HasLoaded g q) a c)
    (took : Streams (length batch) (queue_view_of b) (queue_view_of d) report.taken.elements report.results.elements)
    (all : length report.results.elements ≡ length batch) (losses : AreLossesOf batch report.results.elements report.losses.elements)
    (results : IsPassOfQueue q.results d) where
  -- a loader was made of each store
  dealt : IsDealt g q k.round l.round was b k.stores a
  dealt = out.dealt

  number_is : length a ≡ length k.stores
  number_is = sym (length-reverse (stores_of a) ∙ length-map a (λ (x : QueuedView F). x.loader.store)) ∙ ap length dealt.stores_are

  sizes : AreSized (tile_length k.shape k.depth) l.round.buffers.elements
  sizes = subst (λ (x : ListView (ListView ℕ)). AreSized (tile_length k.shape k.depth) x.elements) (sym dealt.buffers) asked.pool.buffers

  -- the pool is as it was but for its requests
  same_pool : IsLoaderPool g (record k { stores = reverse (stores_of a); round = l.round })
  same_pool = subst (λ (x : List (StoreView F)). IsLoaderPool g (record k { stores = x; round = l.round })) (sym dealt.stores_are) (record {
    crew = asked.pool.crew;
    depth = asked.pool.depth;
    stores = asked.pool.stores;
    known = asked.pool.known;
    buffers = sizes;
  })

  -- they may be taken back
  pub stream_back : MayEndStream g q l batch c d report (stream_begun g was b k a)
  unfolding stream_begun round
  stream_back = subst (λ (x : LoaderPoolView F). MayEndStream g q x batch c d report (stream_begun g was b k a)) (sym out.rest) (record {
    pool = same_pool;
    took = took;
    all = all;
    losses = losses;
    ended = record {
      asked = asked.queued.put;
      answers_all = ap (λ w. w.shares) asked.queued.no_answers;
      no_results = ap (λ w. w.put) asked.queued.no_answers;
      no_answers = ap (λ w. w.took) asked.queued.no_answers;
      split = dealt.split;
      depth_is = asked.pool.depth;
      loaders = dealt.of k.shape k.depth (known_bytes g k.stores) (λ j x inside. let are = asked.pool.stores in
          (are.shapes j x inside, are.depths j x inside, are.known j x inside));
      number = number;
      loaded = did_load;
    };
    depth_is = refl;
    known_is = ap (known_bytes g) (sym dealt.stores_are);
    no_stores = refl;
    passes = record { requests = dealt.passes.requests; results = results };
    loaders_of = λ j x inside. (did_load j x (omega (arith, number, inside))).passes;
    some = (let x = asked.pool.crew.some_loader in let y = asked.pool.stores.count in let z = number_is in omega (arith, x, y, z, number));
    stores_room = (let x = dealt.room in omega (arith, x, number));
    buffers = subst (λ (x : ListView (ListView ℕ)). length batch ≤ x.spare) (sym dealt.buffers) asked.queued.buffers;
  })
