use Rattle.std.proofs.Common.{ap, refl}
use Rattle.vt_outside.proofs.Refusing.{none_made}
use Rattle.vt_loading.specs.RoundStocks.{RoundStockView}
use Rattle.vt_loading.proofs.round.RoundStock.renew.Goals as goal

pub returns : goal.returns
returns g c = record {
  new = c.in_ok-made.ensures;
  rest = ap (λ (r : RoundStockView _). record r { asks = c.in_ok-made.asks }) c.self.view_is;
}

pub returns-in_err-made : goal.returns-in_err-made
returns-in_err-made g c = record { new = none_made c.from_residual.result _ _ c.from_residual.ensures.1; rest = refl }
