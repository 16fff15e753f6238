use Rattle.std.proofs.Common.{subst}
use Rattle.std.specs.Prelude.{IfSome}
use Rattle.vt_pictures.specs.DrawLookups.{IsFinestFound}
use Rattle.vt_swap.specs.Readers.{LookupView, IsSaidIn}
use Rattle.vt_swap.proofs.Saying.{if_finest}
use Rattle.vt_swap.proofs.lookup.SwapLookup.find_mapped.Goals as goal

pub returns : goal.returns
returns c =
    subst (λ (v : LookupView). IfSome c.finest_mapped.result (IsFinestFound v.shape v.table.version (IsSaidIn v) c.args.page)) c.self.view_is
    (if_finest _ c.args.page c.finest_mapped.result c.self.invariant.0 c.finest_mapped.ensures)
