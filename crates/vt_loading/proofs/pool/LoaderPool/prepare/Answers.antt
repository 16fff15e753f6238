use Rattle.std.proofs.Common.{ℕ, ◌≤◌, subst, sym}
use Rattle.std.specs.Prelude.{All}
use Rattle.vt_tiles.specs.Depths.{IsDepth}
use Rattle.vt_tiles.specs.Shape.{Shape}
use Rattle.vt_requests.specs.Crews.{IsCrew}
use Rattle.vt_tiles.specs.Format.{tile_length}
use Rattle.vt_requests.specs.Sizes.{AreSized}
use Rattle.vt_requests.specs.BlankReports.{IsBlank}
use Rattle.vt_loading.specs.RoundStocks.{RoundStockView, IsSetUp}
use Rattle.vt_loading.proofs.StoreRooms.{on_ok}
use Rattle.vt_loading.specs.LoaderPools.{LoaderPoolView}
use Rattle.vt_loading.proofs.StreamRooms.{prepared_with, same_asked}
use Rattle.vt_loading.proofs.pool.LoaderPool.prepare.Goals as goal

pub set_up-requires : goal.set_up-requires
set_up-requires g c =
    let same = c.make_room.ensures.same in
    let pool = c.requires.pool in
    record {
      crew = subst IsCrew (sym same.crew) pool.crew;
      depth = subst IsDepth (sym same.depth) pool.depth;
      sizes = subst (λ (r : RoundStockView _). AreSized (tile_length c.make_room.new.self.shape c.make_room.new.self.depth) r.buffers.elements)
          (sym c.make_room.ensures.round)
          (subst (λ (z : Shape × ℕ). AreSized (tile_length z.0 z.1) c.args.self.now.round.buffers.elements)
          (λ i. (sym same.shape i, sym same.depth i)) pool.buffers);
    }

pub returns-clause-prepared : goal.returns-clause-prepared
returns-clause-prepared g c = on_ok c.set_up.result c.set_up.ensures.set_up (λ set_up.
    let l = c.make_room.new.self in
    let m = c.set_up.new.self in
    let count = c.len-entries.ensures in
    prepared_with g.F.File c.set_up.new.answers c.in_ok-report.field-0 c.set_up.new.queues c.args.self.now m c.args.batch.now.elements
    (same_asked g.F.File c.args.self.now l m c.make_room.ensures.same c.set_up.ensures.rest) c.requires.pool c.requires.few
    (subst (λ n. IsBlank n c.in_ok-report.field-0) count c.in_ok-report.ensures.blank) c.in_ok-report.ensures.no_events
    (subst (λ (x : LoaderPoolView _). All (λ store. x.crew.batch ≤ g.F.File.spare store.file) x.stores) (sym c.set_up.ensures.rest)
    c.in_ok-make_room.ensures.reads)
    (subst (IsSetUp c.set_up.new.queues m.round c.set_up.new.answers (tile_length m.shape m.depth) m.crew) count set_up))
