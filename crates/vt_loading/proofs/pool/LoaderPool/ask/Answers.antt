use Rattle.std.proofs.Common.{◌<◌, List, length, refl, sym, subst}
use Rattle.std.specs.Prelude.{All}
use Rattle.vt_tiles.specs.Pages.{pages_of}
use Rattle.vt_tiles.specs.Format.{tile_length}
use Rattle.vt_requests.specs.PlanTypes.batches.Planned.{Planned}
use Rattle.vt_loading.specs.RoundStocks.{IsSetUp, IsAsked}
use Rattle.vt_loading.specs.LoaderPools.{LoaderPoolView, IsPreparedStream}
use Rattle.vt_loading.proofs.StreamRooms.{once_asked}
use Rattle.vt_loading.proofs.pool.LoaderPool.ask.Goals as goal

pub returns-clause-asked : goal.returns-clause-asked
returns-clause-asked g c = λ answers report given.
    let q = c.args.queues.now in
    let k = c.self.inside in
    let batch = c.args.batch.now.elements in
    let size = tile_length k.geometry k.depth in
    let its = subst (λ (x : LoaderPoolView _). IsPreparedStream g.F.File q answers report x batch) (sym c.self.view_is) given in
    let same = sym c.slice.ensures in
    let asked = c.ask.ensures answers k.geometry k.depth k.crew
    (subst (λ (l : List Planned). All (λ e. e.page < pages_of k.geometry) l) same
    (subst (λ (x : LoaderPoolView _). All (λ e. e.page < pages_of x.shape) batch) (sym c.self.view_is) c.requires.inside))
    (subst (λ (l : List Planned). IsSetUp q k.round answers size k.crew (length l)) same its.queued) in
    once_asked g.F.File q answers report _ _ batch refl its
    (subst (IsAsked q c.ask.new.self answers k.geometry k.depth k.crew) c.slice.ensures asked)
