use Rattle.std.proofs.Common.{◌-◌}
use Rattle.vt_pages.specs.Pages.{level_of, levels_of}
use Rattle.vt_residency.proofs.needs.+count_line.Given as goal

abbrev pub decreases-count_line : goal.decreases-count_line
decreases-count_line l = levels_of l.geometry.now - level_of l.geometry.now l.page
