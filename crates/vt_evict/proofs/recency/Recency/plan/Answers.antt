use Rattle.std.proofs.Common.{◌≡◌, ℕ, ◌<◌, List, length, sym, ap, ◌∙◌, subst}
use Rattle.std.specs.List.{All}
use Rattle.vt_plan.specs.Pages.{pages_of}
use Rattle.vt_plan.specs.FeedbackTypes.Wanted.{Wanted}
use Rattle.vt_plan.specs.Wants.{pages_wanted}
use Rattle.vt_plan.specs.Views.{RecencyView, IsRecencyTable}
use Rattle.vt_plan.specs.Plans.{missing_pages}
use Rattle.vt_plan.specs.Missing.{missing_from}
use Rattle.vt_evict.proofs.PlansMade.{planned_is, planned_lawful, planned_most}
use Rattle.vt_evict.proofs.recency.Recency.plan.Goals as goal

-- the pages that were asked for are the missing ones
missing_seen : (v seen : RecencyView) (wants : List Wanted) (slice walked entries : List ℕ) → v ≡ seen → slice ≡ walked → entries ≡ v.entries
    → walked ≡ missing_from v.shape entries (pages_wanted wants) → slice ≡ missing_pages seen wants
unfolding missing_pages
missing_seen v seen wants slice walked entries is a b c =
    a ∙ c ∙ ap (λ (l : List ℕ). missing_from v.shape l (pages_wanted wants)) b ∙ ap (λ (u : RecencyView). missing_pages u wants) is

pub missing_of-requires-clause-inside : goal.missing_of-requires-clause-inside
missing_of-requires-clause-inside c =
    subst (λ (u : RecencyView). All (λ w. w.page < pages_of u.shape) c.args.wants.now.elements) (sym c.self.view_is) c.requires

pub missing_of-requires-clause-entries : goal.missing_of-requires-clause-entries
missing_of-requires-clause-entries c = ap length c.as_slice.ensures.value ∙ c.self.invariant.table.entries_for_all

pub returns-clause-plan : goal.returns-clause-plan
returns-clause-plan c =
    planned_is c.args.self.now c.args.wants.now.elements c.as_slice-missing.result.now c.args.q c.plan_by.result
    (missing_seen _ _ c.args.wants.now.elements _ _ _ c.self.view_is c.as_slice-missing.ensures.keys c.as_slice.ensures.value c.in_ok-asked.ensures)
    c.plan_by.ensures

pub returns-clause-lawful : goal.returns-clause-lawful
returns-clause-lawful c =
    planned_lawful c.args.self.now c.args.wants.now.elements c.as_slice-missing.result.now c.args.q c.plan_by.result
    (missing_seen _ _ c.args.wants.now.elements _ _ _ c.self.view_is c.as_slice-missing.ensures.keys c.as_slice.ensures.value c.in_ok-asked.ensures)
    c.plan_by.ensures
    (subst IsRecencyTable c.self.view_is c.self.invariant.table) c.requires

pub returns-clause-most : goal.returns-clause-most
returns-clause-most c =
    planned_most c.args.self.now c.args.wants.now.elements c.as_slice-missing.result.now c.args.q c.plan_by.result
    (missing_seen _ _ c.args.wants.now.elements _ _ _ c.self.view_is c.as_slice-missing.ensures.keys c.as_slice.ensures.value c.in_ok-asked.ensures)
    c.plan_by.ensures
