use Rattle.std.proofs.Common.{◌-◌}
use Rattle.vt_plan.specs.Pages.{level_of, levels_of}
use Rattle.vt_evict.proofs.lines.+add_line.Given as goal

abbrev pub decreases-add_line : goal.decreases-add_line
decreases-add_line l = levels_of l.geometry.now - level_of l.geometry.now l.page
