-- The last three of the changes.
use Rattle.std.specs.Prelude.{◌≡◌, ◌-◌, ◌≤◌, List, Some, length, slice_get}
use Rattle.vt_table.specs.JournalTypes.changes.Change.{Change}
use Rattle.vt_streamer.specs.declared.latest.Latest.{Latest}

-- these are the last three changes, as far as there were so many
pub record AreLatest (changes : List Change) (l : Latest) : Type 0 where
  pub last : 1 ≤ length changes → slice_get changes (length changes - 1) ≡ Some l.last
  pub second : 2 ≤ length changes → slice_get changes (length changes - 2) ≡ Some l.second
  pub third : 3 ≤ length changes → slice_get changes (length changes - 3) ≡ Some l.third
