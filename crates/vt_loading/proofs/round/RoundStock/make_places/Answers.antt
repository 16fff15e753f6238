use Rattle.std.proofs.Common.{◌∙◌, arith, ap}
use Rattle.vt_loading.specs.RoundStocks.{RoundStockView}
use Rattle.vt_loading.proofs.StoreRooms.{on_ok}
use Rattle.vt_loading.proofs.round.RoundStock.make_places.Goals as goal

pub returns : goal.returns
returns g c = record {
  places = on_ok c.make_buffers.result c.make_buffers.ensures.count (λ count. record {
    no_loaders = c.reserve.ensures.elements ∙ c.self.inside.no_loaders;
    loaders = (let r = c.in_ok-reserve.ensures.room in let e = c.from.ensures in omega (arith, r, e));
    buffers = count;
    sizes = c.make_buffers.ensures.sizes;
  });
  asks = ap (λ (r : RoundStockView _). r.asks) c.self.view_is;
}
