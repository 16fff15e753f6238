use Rattle.std.proofs.Common.{◌+◌, ◌∙◌, ap, length, subst, sym}
use Rattle.vt_requests.specs.Sizes.{AreSized}
use Rattle.vt_loading.specs.RoundStocks.{RoundStockView}
use Rattle.vt_loading.proofs.round.RoundStock.keep.Goals as goal

pub returns : goal.returns
returns g c = record {
  none = c.give_back.ensures.none;
  asks = ap (λ (r : RoundStockView _). r.asks) c.self.view_is;
  count = c.give_back.ensures.count
      ∙ ap (λ (r : RoundStockView _). length r.buffers.elements + length c.args.results.now.elements) c.self.view_is;
  sizes = λ n all sized. c.give_back.ensures.sizes n all (subst (λ (r : RoundStockView _). AreSized n r.buffers.elements) (sym c.self.view_is) sized);
}
