use Rattle.std.proofs.Common.{◌-◌, ◌<◌, ◌≤◌}
use Rattle.vt_pages.specs.Pages.{pages_below}
use Rattle.vt_pages.proofs.Geometry.level_of.Given as goal

abbrev pub invariant-loop-level : goal.invariant-loop-level
invariant-loop-level l =
    record {
      inside : l.level < l.self-inside.levels;
      from : pages_below l.self l.level ≤ l.page;
    }

abbrev pub decreases-loop-level : goal.decreases-loop-level
decreases-loop-level l = l.self-inside.levels - l.level
