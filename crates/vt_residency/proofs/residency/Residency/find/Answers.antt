use Rattle.std.proofs.Common.{◌≡◌, ℕ, ◌-◌, ◌<◌, None, List, sym, ap, subst, ◌∙◌, arith}
use Rattle.vt_pages.specs.Shape.{Shape}
use Rattle.vt_pages.specs.Pages.{levels_of, level_of, pages_of}
use Rattle.vt_pages.specs.Lookups.{lookup}
use Rattle.vt_pages.proofs.Parents.{level_below}
use Rattle.vt_evict.specs.Missing.{has_frame}
use Rattle.vt_plan.specs.Views.{RecencyView}
use Rattle.vt_residency.specs.Residencies.{ResidencyView}
use Rattle.vt_residency.proofs.Finding.{found_some}
use Rattle.vt_residency.proofs.residency.Residency.find.Goals as goal

pub unreachable-requires : goal.unreachable-requires
unreachable-requires c =
    let v : RecencyView = c.self.inside.recency in
    let p : ℕ = c.args.page in
    let inside : p < pages_of v.shape = subst (λ (x : ResidencyView). p < pages_of x.table.shape) (sym c.self.view_is) c.requires in
    let none : lookup v.shape (has_frame v.entries) p ≡ None =
    ap (λ (s : Shape). lookup s (has_frame v.entries) p) c.self.invariant.shape
    ∙ ap (λ (es : List ℕ). lookup c.self.inside.geometry (has_frame es) p) (sym c.entries.ensures.entries) ∙ c.in-None.ensures in
    let below = level_below v.shape p c.self.invariant.table.limits inside in
    found_some v c.self.invariant.table (levels_of v.shape - 1 - level_of v.shape p) p (omega (arith, below)) inside none
