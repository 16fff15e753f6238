-- How the round of loaders ends whose results were streamed meanwhile, once they are taken back.
use Rattle.std.proofs.Common.{◌≡◌, ℕ, ◌<◌, ◌≤◌, List, [], ◌∷◌, length, Option, refl, sym, ap, ◌∙◌, subst, arith}
use Rattle.std.specs.Prelude.{reverse, All}
use Rattle.std.proofs.lemmas.List.{length-reverse, length-map}
use Rattle.std.proofs.lemmas.List.Elements.{All-map}
use Rattle.std.proofs.lemmas.List.Sorted.{IsPermutation-reverse, All-permutation}
use Rattle.vt_outside.specs.Lists.{ListView}
use Rattle.vt_outside.specs.declared.outside.File.{Ghosts as FileMeanings}
use Rattle.vt_requests.specs.JournalTypes.changes.Event.{Event}
use Rattle.vt_tiles.specs.Format.{tile_length}
use Rattle.vt_tiles.specs.StoreViews.{StoreView, IsStoreIfKnown}
use Rattle.vt_requests.specs.PlanTypes.batches.Planned.{Planned}
use Rattle.vt_queue.specs.declared.items.Request.{Request}
use Rattle.vt_queue.specs.declared.items.Loaded.{Loaded}
use Rattle.vt_queue.specs.declared.views.PassView.{PassView}
use Rattle.vt_queue.specs.declared.queue.QueuePass.{QueuePass}
use Rattle.vt_queue.specs.PassViews.{all_joined}
use Rattle.vt_queue.specs.Queues.{queue_view_of}
use Rattle.vt_queue.specs.Steps.{IsAtStep}
use Rattle.vt_load.specs.Loaders.{LoaderView}
use Rattle.vt_load.specs.declared.queued.Queues.{Queues}
use Rattle.vt_load.specs.QueuedLoaders.{QueuedView, AreOf, asks_of, answers_of, stores_of}
use Rattle.vt_load.specs.Results.{IsGood}
use Rattle.vt_load.proofs.Answering.{bytes_kept}
use Rattle.vt_requests.specs.Outcomes.{IsOutcome}
use Rattle.vt_requests.specs.Requests.{AreReadFor}
use Rattle.vt_requests.specs.Machines.{files_of, known_bytes, AreStoresFor}
use Rattle.vt_requests.specs.BatchRounds.{result_events}
use Rattle.vt_requests.specs.Sizes.{AreSized}
use Rattle.vt_requests.specs.declared.report.StreamReport.{StreamReport}
use Rattle.vt_loading.specs.RoundStocks.{RoundStockView, AreEmptied}
use Rattle.vt_loading.proofs.Ending.{all_entries, all_good, all_sizes, outcome, read, asks_whole, answers_whole, no_asks, no_answers}
use Rattle.vt_loading.specs.LoaderPools.{LoaderPoolView, StreamBegun, MayEndStream, HasEndedStream}

-- stores that all tell the same, tell it together
known_all : {F : Type 0} (g : FileMeanings F) (known : Option (List ℕ)) (stores : List (StoreView F)) → 1 ≤ length stores
    → All (λ (store : StoreView F). g.bytes store.file ≡ known) stores → known_bytes g stores ≡ known
known_all g known [] some all = absurd (omega (arith, some))
known_all g known (x ∷ xs) some all = all 0 x (omega arith)

module _ {F : Type 0} (g : FileMeanings F) (q : Queues) (k : LoaderPoolView F) (batch : List Planned) (c : List (QueuedView F))
    (answers : QueuePass Loaded) (report : StreamReport) (b : StreamBegun F) (h : MayEndStream g q k batch c answers report b) where
  -- a store of a loader is as the loaders' stores were
  IsAlike : StoreView F → Type 0
  IsAlike store = (store.shape ≡ k.shape) × (store.depth ≡ b.round.depth) × (g.bytes store.file ≡ b.round.known)

  alike : All (λ (l : QueuedView F). IsAlike l.loader.store) c
  unfolding IsAlike
  alike j e inside =
      let low : j < length b.round.first = (let n = h.ended.number in omega (arith, n, inside)) in
      let was = h.ended.loaders j e low in
      let did = h.ended.loaded j e low in (
        ap (λ (l : LoaderView F). l.store.shape) did.same ∙ was.shape,
        ap (λ (l : LoaderView F). l.store.depth) did.same ∙ was.depth,
        bytes_kept g _ _ _ _ _ _ did.loads.puts.read ∙ was.known_is,
      )

  turned : All IsAlike (reverse (stores_of c))
  turned = All-permutation IsAlike _ _ (IsPermutation-reverse (stores_of c)) (All-map IsAlike (λ (l : QueuedView F). l.loader.store) c alike)

  number_of : (ls : List (QueuedView F)) → length (reverse (stores_of ls)) ≡ length ls
  number_of ls = length-reverse (stores_of ls) ∙ length-map ls (λ (l : QueuedView F). l.loader.store)

  known_is : known_bytes g (reverse (stores_of c)) ≡ b.round.known
  unfolding IsAlike
  known_is = known_all g b.round.known (reverse (stores_of c)) (let n = number_of c in let some = h.some in omega (arith, n, some))
      (λ j x inside. (turned j x inside).2)

  same_known : known_bytes g (reverse (stores_of c)) ≡ known_bytes g (reverse (stores_of b.round.first))
  same_known = known_is ∙ h.known_is

  stores_for : AreStoresFor g k.shape k.depth k.crew.loaders (reverse (stores_of c))
  unfolding IsAlike
  stores_for = record {
    count = number_of c ∙ h.ended.number ∙ sym (number_of b.round.first) ∙ h.pool.stores.count;
    shapes = λ j x inside. (turned j x inside).0;
    depths = λ j x inside. (turned j x inside).1 ∙ h.depth_is;
    known = λ j x inside. (turned j x inside).2 ∙ sym known_is;
  }

  -- the passes of the queues were made one again
  module _ (asks_back : PassView Request) (answers_end : PassView Loaded)
      (joined : asks_back ≡ all_joined (queue_view_of k.round.asks) (asks_of c)) (given : answers_end ≡ all_joined (queue_view_of answers) (answers_of c))
      (unread : (left : List Request) × IsAtStep asks_back left) (over : (left : List Loaded) × IsAtStep answers_end left) where
    -- the buffers that come back are those of tiles
    pub sizes_back : All (λ (x : Loaded). length x.request.buffer.elements ≡ tile_length k.shape k.depth) report.results.elements
    sizes_back = subst (λ (d : ℕ). All (λ (x : Loaded). length x.request.buffer.elements ≡ tile_length k.shape d) report.results.elements) h.depth_is
        (all_sizes g q k.shape batch (queue_view_of k.round.asks) asks_back (queue_view_of b.answers) (queue_view_of answers) answers_end c
        report.taken.elements report.results.elements unread.0 over.0 joined unread.1 h.took h.all given over.1 b.round h.ended)

    outcome_is : (events : List Event) → events ≡ result_events batch report.results.elements → IsOutcome batch report.losses.elements events
    outcome_is = outcome g q k.shape batch (queue_view_of k.round.asks) asks_back (queue_view_of b.answers) (queue_view_of answers) answers_end c
        report.taken.elements report.results.elements unread.0 over.0 joined unread.1 h.took h.all given over.1 b.round h.ended
        report.losses.elements h.losses

    read_is : AreReadFor k.shape k.depth batch report.losses.elements (files_of g (reverse (stores_of b.round.first)))
        (files_of g (reverse (stores_of c)))
    read_is = subst (λ (d : ℕ). AreReadFor k.shape d batch report.losses.elements (files_of g (reverse (stores_of b.round.first)))
        (files_of g (reverse (stores_of c)))) h.depth_is
        (read g q k.shape batch (queue_view_of k.round.asks) asks_back (queue_view_of b.answers) (queue_view_of answers) answers_end c
        report.taken.elements report.results.elements unread.0 over.0 joined unread.1 h.took h.all given over.1 b.round h.ended
        report.losses.elements h.losses)

    good : All (IsGood (known_bytes g (reverse (stores_of c))) k.shape k.depth) report.results.elements
    good = subst (λ (z : Option (List ℕ) × ℕ). All (IsGood z.0 k.shape z.1) report.results.elements) (λ i. (sym known_is i, h.depth_is i))
        (all_good g q k.shape batch (queue_view_of k.round.asks) asks_back (queue_view_of b.answers) (queue_view_of answers) answers_end c
        report.taken.elements report.results.elements unread.0 over.0 joined unread.1 h.took h.all given over.1 b.round h.ended)

    -- the pool has its stores back, and the buffers of the results
    pub ended_stream : (l : LoaderPoolView F) (stores : List (StoreView F)) (round before : RoundStockView F)
        → l ≡ record k { stores = stores; round = round } → stores ≡ reverse (stores_of c) → before.buffers ≡ k.round.buffers
        → ((n : ℕ) → All (λ (x : Loaded). length x.request.buffer.elements ≡ n) report.results.elements → AreSized n before.buffers.elements
        → AreSized n round.buffers.elements)
        → HasEndedStream g k l batch report b
    ended_stream l stores round before rest stores_are same kept =
        let sizes : AreSized (tile_length k.shape k.depth) round.buffers.elements = kept (tile_length k.shape k.depth) sizes_back
        (subst (λ (x : ListView (ListView ℕ)). AreSized (tile_length k.shape k.depth) x.elements) (sym same) h.pool.buffers) in
        let whole : LoaderPoolView F = record k { stores = reverse (stores_of c); round = round } in
        let l_is : l ≡ whole = rest ∙ (λ i. record k { stores = stores_are i; round = round }) in
        subst (λ (z : LoaderPoolView F). HasEndedStream g k z batch report b) (sym l_is) (record {
          rest = refl;
          known = same_known;
          pool = record {
            crew = h.pool.crew;
            depth = h.pool.depth;
            stores = stores_for;
            known = subst (λ (o : Option (List ℕ)). IsStoreIfKnown o k.shape k.depth) (sym same_known) h.pool.known;
            buffers = sizes;
          };
          read = read_is;
          entries = all_entries g q k.shape batch (queue_view_of k.round.asks) asks_back (queue_view_of b.answers) (queue_view_of answers) answers_end c
              report.taken.elements report.results.elements unread.0 over.0 joined unread.1 h.took h.all given over.1 b.round h.ended;
          good = good;
          outcome = outcome_is;
        })

    -- nothing is left in the queues
    pub emptied : (asks : QueuePass Request) (results : QueuePass Loaded) → AreOf q asks results → queue_view_of asks ≡ asks_back
        → queue_view_of results ≡ answers_end → AreEmptied q asks results
    emptied asks results of same_asks same_answers = record {
      passes = of;
      all_asks = ap (λ (v : PassView Request). v.shares) same_asks
          ∙ asks_whole g q k.shape batch (queue_view_of k.round.asks) asks_back (queue_view_of b.answers) (queue_view_of answers) answers_end c
          report.taken.elements report.results.elements unread.0 over.0 joined unread.1 h.took h.all given over.1 b.round h.ended;
      all_answers = ap (λ (v : PassView Loaded). v.shares) same_answers
          ∙ answers_whole g q k.shape batch (queue_view_of k.round.asks) asks_back (queue_view_of b.answers) (queue_view_of answers) answers_end c
          report.taken.elements report.results.elements unread.0 over.0 joined unread.1 h.took h.all given over.1 b.round h.ended;
      no_asks = subst (λ (v : PassView Request). IsAtStep v []) (sym same_asks)
          (no_asks g q k.shape batch (queue_view_of k.round.asks) asks_back (queue_view_of b.answers) (queue_view_of answers) answers_end c
          report.taken.elements report.results.elements unread.0 over.0 joined unread.1 h.took h.all given over.1 b.round h.ended);
      no_answers = subst (λ (v : PassView Loaded). IsAtStep v []) (sym same_answers)
          (no_answers g q k.shape batch (queue_view_of k.round.asks) asks_back (queue_view_of b.answers) (queue_view_of answers) answers_end c
          report.taken.elements report.results.elements unread.0 over.0 joined unread.1 h.took h.all given over.1 b.round h.ended);
    }
