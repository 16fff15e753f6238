use Rattle.std.proofs.Common.{◌≡◌, ℕ, Bool, false, cond, sym, subst, arith}
use Rattle.std.specs.Prelude.{OnOk}
use Rattle.std.proofs.lemmas.Bool.Decides.{nat_tests}
use Rattle.vt_feedback.specs.Lookups.{next_finer_page}
use Rattle.vt_plan.specs.Missing.{has_frame}
use Rattle.vt_plan.specs.PageLists.{with_page}
use Rattle.vt_plan.proofs.plans.ask.Goals as goal

pub returns : goal.returns
returns c =
    let keys = c.args.missing.now.keys in
    let entries = c.args.entries.now in
    let off : has_frame entries c.args.page ≡ false = let h = c.if-entries-page-gt0.false in grind (arith, nat_tests) in
    let step : ℕ = next_finer_page c.args.geometry.now (has_frame entries) c.args.page in
    subst (λ (b : Bool). OnOk c.add_page.result (c.add_page.new.pages.keys ≡ cond b keys (with_page keys step))) (sym off)
    (subst (λ (p : ℕ). OnOk c.add_page.result (c.add_page.new.pages.keys ≡ with_page keys p)) c.next_finer_page.ensures.step c.add_page.ensures)
