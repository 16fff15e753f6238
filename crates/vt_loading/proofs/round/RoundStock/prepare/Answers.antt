use Rattle.std.proofs.Common.{sym, subst, length}
use Rattle.vt_queue.specs.declared.items.Request.{Request}
use Rattle.vt_queue.specs.declared.queue.QueuePass.{QueuePass}
use Rattle.vt_requests.specs.Sizes.{AreSized}
use Rattle.vt_loading.specs.RoundStocks.{RoundStockView, AreNew}
use Rattle.vt_loading.proofs.StoreRooms.{on_ok}
use Rattle.vt_loading.proofs.round.RoundStock.prepare.Goals as goal

pub make_places-requires : goal.make_places-requires
make_places-requires g c =
    subst (λ (r : RoundStockView _). AreSized (length c.args.tile.now) r.buffers.elements) (sym c.renew.ensures.rest) c.requires.sizes

pub returns : goal.returns
returns g c = on_ok c.make_places.result c.make_places.ensures.places (λ places. record {
  new = subst (λ (a : QueuePass Request). AreNew c.args.crew.now.batch c.renew.new.queues a c.renew.new.answers) (sym c.make_places.ensures.asks)
      c.in_ok-renew.ensures.new;
  places = places;
})
