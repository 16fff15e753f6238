-- Changes that keep the root mapped, by the root's number.
use Rattle.std.specs.Prelude.{◌≡◌, ℕ, Some, List, slice_get}
use Rattle.vt_journal.specs.declared.changes.Change.{Change}
use Rattle.vt_journal.specs.Changes.{Table, at, IsNext, Keeps}

-- a change may come after a table, and does not unmap the root
abbrev pub IsNextKeeping : ℕ → Table → Change → Type 0
IsNextKeeping root m change = IsNext m change × Keeps root change

-- each change may come after those before it, and none unmaps the root
abbrev pub AreInTurnKeeping : ℕ → List Change → Type 0
AreInTurnKeeping root changes = (v : ℕ) (change : Change) → slice_get changes v ≡ Some change → IsNextKeeping root (at changes v) change
