-- The changes of a page table that loads make.
use Rattle.std.specs.Prelude.{◌≡◌, ℕ, ◌<◌, ◌≤◌, Option, None, Some, List, [], ◌∷◌, ◌++◌, take, drop, length}
use Rattle.std.specs.List.{flat_map}
use Rattle.vt_evict.specs.PlanTypes.batches.Planned.{Planned}
use Rattle.vt_residency.specs.declared.changes.Change.{Change}

-- the page that has a frame before is taken out of it
abbrev pub given_up : ℕ → Option ℕ → List Change
given_up frame None = []
given_up frame (Some p) = record { page = p; frame = frame; mapped = 0 } ∷ []

-- a load takes its victim out of its frame, if it has one, and then maps its page to it
abbrev pub load_changes : Planned → List Change
load_changes e = given_up e.frame e.victim ++ record { page = e.page; frame = e.frame; mapped = 1 } ∷ []

-- the number of changes is told, and where a list has room for them they are at its front; else the list is as it was
pub record HasChanges (loads : List Planned) (old : List Change) (n : ℕ) (new : List Change) : Type 0 where
  pub count : n ≡ length (flat_map load_changes loads)
  pub long : length new ≡ length old
  pub changes : n ≤ length old → take n new ≡ flat_map load_changes loads
  pub rest : n ≤ length old → drop n new ≡ drop n old
  pub kept : length old < n → new ≡ old
