use Rattle.std.proofs.Common.{◌≡◌, List, sym, ap, subst, ◌∙◌, length}
use Rattle.vt_pages.specs.Limits.{most_frames}
use Rattle.vt_evict.specs.PlanTypes.batches.Planned.{Planned}
use Rattle.vt_plan.specs.Views.{RecencyView}
use Rattle.vt_evict.specs.Batches.{IsLawfulBatch}
use Rattle.std.specs.List.{filter}
use Rattle.std.proofs.Common.{◌++◌, ◌≤◌}
use Rattle.vt_residency.specs.Loads.{is_apart}
use Rattle.vt_residency.proofs.UnderWay.{few_lawful, lawful_touched, lawful_more}
use Rattle.vt_residency.proofs.Passing.{wants_inside}
use Rattle.vt_residency.proofs.residency.plan_on.Goals as goal

pub returns-in_err-wants-clause-few : goal.returns-in_err-wants-clause-few
returns-in_err-wants-clause-few c = few_lawful c.args.recency.now c.args.loads.now.elements c.requires.table c.requires.lawful

pub touch-requires : goal.touch-requires
touch-requires c = wants_inside _ _ _ _ c.requires.shape c.in_ok-wants.ensures.wants

pub plan-requires : goal.plan-requires
plan-requires c = wants_inside _ _ _ _ (ap (λ (v : RecencyView). v.shape) c.touch.ensures.touched ∙ c.requires.shape) c.in_ok-wants.ensures.wants

pub returns-in_err-plan-clause-few : goal.returns-in_err-plan-clause-few
returns-in_err-plan-clause-few c = few_lawful c.args.recency.now c.args.loads.now.elements c.requires.table c.requires.lawful

pub returns-in_err-reserve-clause-few : goal.returns-in_err-reserve-clause-few
returns-in_err-reserve-clause-few c =
    subst (λ (l : List Planned). length l ≤ most_frames) (sym c.reserve.ensures.elements)
    (few_lawful c.args.recency.now c.args.loads.now.elements c.requires.table c.requires.lawful)

pub returns-clause-lawful : goal.returns-clause-lawful
returns-clause-lawful c =
    let loads : List Planned = c.args.loads.now.elements in
    let plan : List Planned = c.in_ok-plan.plan.elements in
    let v : RecencyView = c.touch.new.self in
    let before : IsLawfulBatch v loads = subst (λ (x : RecencyView). IsLawfulBatch x loads) (sym c.touch.ensures.touched)
    (lawful_touched c.args.recency.now c.in_ok-wants.wants.elements loads c.requires.lawful) in
    let added : c.add_apart.new.loads.elements ≡ loads ++ filter (is_apart loads) plan =
    c.add_apart.ensures ∙ ap (λ (l : List Planned). l ++ filter (is_apart l) c.slice.result.now) c.reserve.ensures.elements
    ∙ ap (λ (p : List Planned). loads ++ filter (is_apart loads) p) c.slice.ensures in
    subst (IsLawfulBatch v) (sym added) (lawful_more v loads plan before c.in_ok-plan.ensures.lawful)

pub returns-clause-few : goal.returns-clause-few
returns-clause-few c = few_lawful c.touch.new.self c.add_apart.new.loads.elements c.touch.ensures.table (returns-clause-lawful c)
