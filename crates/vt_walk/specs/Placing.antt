-- How placing the pinned pages ends.
use Rattle.std.specs.Prelude.{◌≡◌, ◌≤◌, ◌-◌, ℕ, Bool, false, List, map, Option, option_map, ◌++◌}
use Rattle.std.specs.List.{range_with_len}
use Rattle.vt_outside.specs.declared.place.Place.{Place}
use Rattle.vt_outside.specs.declared.outside.File.{Ghosts as FileMeanings}
use Rattle.vt_pages.specs.Shape.{Shape}
use Rattle.vt_pages.specs.Pages.{pages_of}
use Rattle.vt_tiles.specs.Format.{tile_start, tile_length}
use Rattle.vt_tiles.specs.StoreViews.{StoreView}
use Rattle.vt_journal.specs.declared.changes.Change.{Change}
use Rattle.vt_journal.specs.JournalText.{pinned_change, pinned_changes}
use Rattle.vt_walk_decisions.specs.Machines.{Setup, MachineState, file_state}
use Rattle.vt_walk.specs.Beginnings.{IsSameFile}

-- a store with these bytes, where they are known, and of this shape and depth is the one for which a machine was made
pub record IsStoreOf (given : Setup) (known : Option (List ℕ)) (s : Shape) (d : ℕ) : Type 0 where
  pub shape : given.shape ≡ s
  pub depth : given.depth ≡ d
  pub bytes : given.bytes ≡ known

-- what reading from a store keeps: it is the same one, it tells its places where it did, and its count of faults did not fall
pub record KeepsStore {F : Type 0} (f : FileMeanings F) (before after : StoreView F) : Type 0 where
  pub same : IsSameFile (file_state f before.file) (file_state f after.file)
  pub bytes : f.bytes after.file ≡ f.bytes before.file
  pub shape : after.shape ≡ before.shape
  pub depth : after.depth ≡ before.depth
  pub faults : f.faults before.file ≤ f.faults after.file

-- the machine with this journal
abbrev pub with_changes : List Change → MachineState → MachineState
with_changes changes m = record m { journal = changes }

-- the machine whose journal maps the pinned pages (Mayer 2010)
abbrev pub with_pinned : Shape → ℕ → MachineState → MachineState
with_pinned s pinned m = with_changes (pinned_changes s pinned) m

-- the changes that map the first so many pinned pages
abbrev pub first_pinned : Shape → ℕ → ℕ → List Change
first_pinned s pinned count = map (pinned_change s pinned) (range_with_len 0 count)

-- the place of a page's tile
abbrev pub tile_place : Shape → ℕ → Bool → ℕ → Place
tile_place s d failed page = record { at = tile_start s d page; len = tile_length s d; failed = failed }

-- the places that were asked, and those of the first so many pinned pages
abbrev pub with_tiles : Shape → ℕ → ℕ → ℕ → Option (List Place) → Option (List Place)
with_tiles s d pinned count asked = option_map (λ places. places ++ map (tile_place s d false) (range_with_len (pages_of s - pinned) count)) asked
