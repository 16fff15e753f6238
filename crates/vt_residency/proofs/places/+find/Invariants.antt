use Rattle.std.proofs.Common.{◌-◌}
use Rattle.vt_pages.specs.Pages.{level_of, levels_of}
use Rattle.vt_residency.proofs.places.+find.Given as goal

abbrev pub decreases-find : goal.decreases-find
decreases-find l = levels_of l.geometry.now - level_of l.geometry.now l.page
