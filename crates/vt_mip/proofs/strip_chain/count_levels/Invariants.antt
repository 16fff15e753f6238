use Rattle.std.proofs.Common.{◌≡◌, ◌+◌, ◌≤◌}
use Rattle.vt_ppm.specs.Sides.{side}
use Rattle.vt_mip.proofs.StripRoom.{NeedsLevels}
use Rattle.vt_mip.proofs.strip_chain.count_levels.Given as goal

abbrev pub invariant-loop-columns : goal.invariant-loop-columns
invariant-loop-columns l = record {
  few_columns : l.columns ≤ l.width;
  few_rows : l.rows ≤ l.height;
  columns : l.columns ≡ side l.width l.level;
  rows : l.rows ≡ side l.height l.level;
  needed : NeedsLevels l.width l.height l.tile l.level;
}

abbrev pub decreases-loop-columns : goal.decreases-loop-columns
decreases-loop-columns l = l.columns + l.rows
