-- What a call that makes the plan by its missing pages answers, for the wanted list.
use Rattle.std.proofs.Common.{◌≡◌, ℕ, ◌<◌, ◌≤◌, List, length, Result, Ok, Err, sym, ap, ◌∙◌, subst}
use Rattle.std.specs.Prelude.{IfOk}
use Rattle.std.specs.List.{All}
use Rattle.vt_outside.specs.Lists.{ListView}
use Rattle.vt_plan.specs.Pages.{pages_of}
use Rattle.vt_plan.specs.FeedbackTypes.Wanted.{Wanted}
use Rattle.vt_plan.specs.declared.batches.Planned.{Planned}
use Rattle.vt_plan.specs.Views.{RecencyView, IsRecencyTable}
use Rattle.vt_evict.specs.Batches.{IsLawfulBatch}
use Rattle.vt_plan.specs.Plans.{plan_of, plan_by, missing_pages}
use Rattle.vt_evict.proofs.LawfulLemmas.{plan_lawful, plan_count}

same_plan : (v : RecencyView) (wants : List Wanted) (missing : List ℕ) (q : ℕ) → missing ≡ missing_pages v wants → plan_by v wants missing q ≡ plan_of v wants q
unfolding plan_by plan_of
same_plan v wants missing q m = ap (λ (l : List ℕ). plan_by v wants l q) m

pub planned_is : {E : Type 0} (v : RecencyView) (wants : List Wanted) (missing : List ℕ) (q : ℕ) (made : Result (ListView Planned) E)
    → missing ≡ missing_pages v wants → IfOk made (λ b. b.elements ≡ plan_by v wants missing q)
    → IfOk made (λ b. b.elements ≡ plan_of v wants q)
planned_is v wants missing q (Ok batch) m is = is ∙ same_plan v wants missing q m
planned_is v wants missing q (Err e) m is = tt

pub planned_lawful : {E : Type 0} (v : RecencyView) (wants : List Wanted) (missing : List ℕ) (q : ℕ) (made : Result (ListView Planned) E)
    → missing ≡ missing_pages v wants → IfOk made (λ b. b.elements ≡ plan_by v wants missing q)
    → IsRecencyTable v → All (λ w. w.page < pages_of v.shape) wants → IfOk made (λ b. IsLawfulBatch v b.elements)
planned_lawful v wants missing q (Ok batch) m is table inside =
    subst (IsLawfulBatch v) (sym (is ∙ same_plan v wants missing q m)) (plan_lawful v wants q table inside)
planned_lawful v wants missing q (Err e) m is table inside = tt

pub planned_most : {E : Type 0} (v : RecencyView) (wants : List Wanted) (missing : List ℕ) (q : ℕ) (made : Result (ListView Planned) E)
    → missing ≡ missing_pages v wants → IfOk made (λ b. b.elements ≡ plan_by v wants missing q) → IfOk made (λ b. length b.elements ≤ q)
planned_most v wants missing q (Ok batch) m is =
    subst (λ (l : List Planned). length l ≤ q) (sym (is ∙ same_plan v wants missing q m)) (plan_count v wants q)
planned_most v wants missing q (Err e) m is = tt
