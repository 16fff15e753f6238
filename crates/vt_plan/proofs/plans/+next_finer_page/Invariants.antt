use Rattle.std.proofs.Common.{◌-◌}
use Rattle.vt_feedback.specs.Pages.{level_of, levels_of}
use Rattle.vt_plan.proofs.plans.+next_finer_page.Given as goal

abbrev pub decreases-next_finer_page : goal.decreases-next_finer_page
decreases-next_finer_page l = levels_of l.geometry.now - level_of l.geometry.now l.page
