-- A journal as contracts see it: its changes in order, and how many more there is room for.
use Rattle.std.specs.Prelude.{ℕ, ◌-◌, min, length, List}
use Rattle.vt_journal.specs.declared.changes.Change.{Change}
use Rattle.vt_text.specs.Limits.{most_versions}

-- the changes in order, and how many more there is room for
pub record JournalView : Type 0 where
  pub changes : List Change
  pub spare : ℕ

-- how many more changes there is room for, where the list has room for so many and no journal has more than 2^62
abbrev pub room_for_changes : List Change → ℕ → ℕ
room_for_changes changes spare = min spare (most_versions - length changes)
