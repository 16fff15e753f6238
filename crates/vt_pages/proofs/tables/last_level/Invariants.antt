use Rattle.std.proofs.Common.{◌-◌, ℕ, ◌<◌, ◌≤◌, slice_index}
use Rattle.vt_definitions.specs.Limits.{most_levels}
use Rattle.vt_pages.proofs.tables.last_level.Given as goal

abbrev pub invariant-loop-level : goal.invariant-loop-level
invariant-loop-level l =
    record {
      inside : l.level < most_levels;
      before : (k : ℕ) → k < l.level → slice_index l.tables.widths k ≤ l.tile → slice_index l.tables.heights k ≤ l.tile → ⊥;
    }

abbrev pub decreases-loop-level : goal.decreases-loop-level
decreases-loop-level l = most_levels - l.level
