-- What a pass leaves for the next one.
use Rattle.std.specs.Prelude.{◌≡◌, ℕ, Bool, List, length}
use Rattle.vt_pages.specs.Shape.{Shape}
use Rattle.vt_feedback.specs.declared.Wanted.{Wanted}
use Rattle.vt_feedback.specs.Wants.{IsWants}
use Rattle.vt_evict.specs.PlanTypes.batches.Planned.{Planned}
use Rattle.vt_plan.specs.Views.{RecencyView, touched, pages_needed}
use Rattle.vt_evict.specs.Batches.{IsSettledByReads, read_entries}
use Rattle.vt_plan.specs.Plans.{plan_of}
use Rattle.vt_walk_decisions.specs.declared.steps.NextPlan.{NextPlan}

-- the pages are settled by the entries of a batch that were not lost, those wanted are the most recent ones, and the plan is for them
pub record IsOutlook (s : Shape) (pixels : ℕ → ℕ) (most : ℕ) (before : RecencyView) (batch : List Planned) (losses : List Bool)
    (after : RecencyView) (o : NextPlan) : Type 0 where
  pub wants : List Wanted
  pub wanted : IsWants s pixels wants
  pub settled : RecencyView
  pub settles : IsSettledByReads before (read_entries batch losses) settled
  pub after_is : after ≡ touched settled wants
  pub count : o.wanted ≡ length wants
  pub needed_are : o.needed ≡ pages_needed after wants
  pub plan_is : o.plan.elements ≡ plan_of after wants most
