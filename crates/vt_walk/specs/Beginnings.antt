-- A machine before a walk has placed its pinned pages.
use Rattle.std.specs.Prelude.{◌≡◌, ◌≤◌, List, [], Option, IsSome, is_some}
use Rattle.vt_outside.specs.Files.{Asked}
use Rattle.vt_outside.specs.declared.outside.Folder.{Ghosts as FolderMeanings}
use Rattle.vt_walk_decisions.specs.Requests.{FileState, AllKnown}
use Rattle.vt_walk_decisions.specs.Machines.{MachineState}
use Rattle.vt_walk.specs.Walks.{WalkGiven, setup_of_walk}

-- a machine was made for a walk, and its journal is empty
pub record IsBegun (g : WalkGiven) (m : MachineState) : Type 0 where
  pub setup : m.setup ≡ setup_of_walk g
  pub journal : m.journal ≡ []

-- where a folder tells the places that were asked, open files do so
abbrev pub AreKnown : Option Asked → List FileState → Type 0
AreKnown asked opened = IsSome asked → AllKnown opened

-- it is the same file, and tells its places where it did
pub record IsSameFile (before after : FileState) : Type 0 where
  pub name : after.name ≡ before.name
  pub all_known : is_some after.asked ≡ is_some before.asked

-- a folder was asked nothing, and its count did not fall; a store's file is the same, and the other open files are as before
pub record KeepsFiles {D F : Type 0} (d : FolderMeanings D F) (before after : D) (kept now : FileState) (old new : List FileState) : Type 0 where
  pub asked : d.asked after ≡ d.asked before
  pub faults : d.faults before ≤ d.faults after
  pub store : IsSameFile kept now
  pub files : new ≡ old
