use Rattle.std.proofs.Common.{◌≡◌, ◌∙◌, Some, sym, arith}
use Rattle.std.proofs.lemmas.Bool.Decides.{nat_tests}
use Rattle.vt_feedback.specs.Pages.{parent_of}
use Rattle.vt_feedback.proofs.Parents.{parent_facts, level_below}
use Rattle.vt_feedback.proofs.Steps.{step_root, step_below, step_up}
use Rattle.vt_plan.specs.Missing.{has_frame}
use Rattle.vt_plan.proofs.plans.+next_finer_page.Goals as goal

pub next_finer_page-requires : goal.next_finer_page-requires
next_finer_page-requires t c =
    let parent : parent_of c.args.geometry.now c.args.page ≡ Some c.in-Some.parent = sym c.parent.ensures.parent ∙ c.in-Some.is in
    let h = parent_facts c.args.geometry.now c.args.page c.in-Some.parent c.requires.limits c.requires.inside parent in
    let below = level_below c.args.geometry.now c.args.page c.requires.limits c.requires.inside in
    (omega (arith, h.level, c.decreases), (c.requires.limits, (h.inside, (c.requires.entries, grind (arith, nat_tests)))))

pub returns-then-entries-parent-gt0-clause-step : goal.returns-then-entries-parent-gt0-clause-step
returns-then-entries-parent-gt0-clause-step t c =
    let parent : parent_of c.args.geometry.now c.args.page ≡ Some c.in-Some.parent = sym c.parent.ensures.parent ∙ c.in-Some.is in
    step_below c.args.geometry.now (has_frame c.args.entries.now) c.args.page c.in-Some.parent c.requires.limits c.requires.inside parent c.requires.unmapped
    (grind (arith, nat_tests))

pub returns-else-entries-parent-gt0-clause-step : goal.returns-else-entries-parent-gt0-clause-step
returns-else-entries-parent-gt0-clause-step t c =
    let parent : parent_of c.args.geometry.now c.args.page ≡ Some c.in-Some.parent = sym c.parent.ensures.parent ∙ c.in-Some.is in
    c.next_finer_page.ensures.step ∙ step_up c.args.geometry.now (has_frame c.args.entries.now) c.args.page c.in-Some.parent c.requires.limits
    c.requires.inside parent c.requires.unmapped
    (grind (arith, nat_tests))

pub returns-in-None-clause-step : goal.returns-in-None-clause-step
returns-in-None-clause-step t c =
    step_root c.args.geometry.now (has_frame c.args.entries.now) c.args.page c.requires.limits c.requires.inside (sym c.parent.ensures.parent ∙ c.in-None.is)
