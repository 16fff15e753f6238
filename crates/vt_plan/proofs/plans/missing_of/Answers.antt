use Rattle.std.proofs.Common.{ℕ, ◌<◌, cond, List, length, get_or, take, sym, ap, ◌∙◌, arith}
use Rattle.std.proofs.lemmas.List.{map_more}
use Rattle.vt_feedback.specs.Shape.{Shape}
use Rattle.vt_feedback.specs.declared.Wanted.{Wanted}
use Rattle.vt_feedback.specs.Wants.{pages_wanted}
use Rattle.vt_feedback.specs.Lookups.{next_finer_page}
use Rattle.vt_plan.specs.Missing.{has_frame, missing_from}
use Rattle.vt_plan.specs.PageLists.{with_page}
use Rattle.vt_plan.proofs.PlanLemmas.{missing-none, missing-more}
use Rattle.vt_plan.proofs.plans.missing_of.Goals as goal

pub loop-want-init : goal.loop-want-init
loop-want-init c = c.new-missing.ensures.empty ∙ sym (missing-none c.args.geometry.now c.args.entries.now)

pub loop-want-preserved : goal.loop-want-preserved
loop-want-preserved c =
    let s : Shape = c.args.geometry.now in
    let entries : List ℕ = c.args.entries.now in
    let list : List Wanted = c.slice-list.result.now in
    let i : ℕ = c.loop-want.want-index in
    let d : Wanted = record { page = 0; pixels = 0 } in
    let p : ℕ = (get_or list i d).page in
    let within : i < length list = omega arith in
    c.in_ok-ask.ensures
    ∙ ap (λ (l : List ℕ). cond (has_frame entries p) l (with_page l (next_finer_page s (has_frame entries) p))) c.loop-want.invariant
    ∙ sym (missing-more s entries (pages_wanted (take i list)) p)
    ∙ ap (missing_from s entries) (sym (map_more (λ w. w.page) list i d within))
