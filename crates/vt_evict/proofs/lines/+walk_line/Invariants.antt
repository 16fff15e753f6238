use Rattle.std.proofs.Common.{◌-◌}
use Rattle.vt_plan.specs.Pages.{level_of, levels_of}
use Rattle.vt_evict.proofs.lines.+walk_line.Given as goal

abbrev pub decreases-walk_line : goal.decreases-walk_line
decreases-walk_line l = levels_of l.geometry.now - level_of l.geometry.now l.page
