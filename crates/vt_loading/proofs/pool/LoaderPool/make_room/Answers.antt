use Rattle.std.proofs.Common.{ℕ, ◌≤◌, List, ap, sym, subst}
use Rattle.std.specs.Prelude.{All}
use Rattle.vt_tiles.specs.StoreViews.{StoreView}
use Rattle.vt_loading.proofs.StoreRooms.{same_back, stores_back, on_ok}
use Rattle.vt_loading.specs.LoaderPools.{LoaderPoolView}
use Rattle.vt_loading.proofs.StreamRooms.{same_stores}
use Rattle.vt_loading.proofs.pool.LoaderPool.make_room.Goals as goal

pub returns : goal.returns
returns g c =
    let xs = c.self.inside.stores.elements in
    let ws = c.reserve_reads.new.stores in
    let lent = c.slice_mut.ensures.value in
    let same = c.reserve_reads.ensures.same in
    record {
      reads = on_ok c.reserve_reads.result c.reserve_reads.ensures.room (λ all.
          subst (λ (z : ℕ × List (StoreView _)). All (λ store. z.0 ≤ g.F.File.spare store.file) z.1)
          (λ i. (c.from-reads.ensures i, sym (stores_back g.F.File xs c.slice_mut.result.now ws lent same) i)) all);
      round = ap (λ (k : LoaderPoolView _). k.round) c.self.view_is;
      same = same_stores g.F.File _ c.args.self.now _ c.self.view_is (same_back g.F.File xs c.slice_mut.result.now ws lent same);
    }
