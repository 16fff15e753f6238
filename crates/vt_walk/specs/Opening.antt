-- A store that was opened for a loader.
use Rattle.std.specs.Prelude.{◌≡◌, ◌≤◌, ℕ, List, [], Option, OnSome, option_map}
use Rattle.vt_outside.specs.Files.{Asked}
use Rattle.vt_outside.specs.declared.outside.File.{Ghosts as FileMeanings}
use Rattle.vt_outside.specs.declared.outside.Folder.{Ghosts as FolderMeanings}
use Rattle.vt_pages.specs.Shape.{Shape}
use Rattle.vt_tiles.specs.StoreViews.{StoreView}

-- a store of a name was just opened: it tells these bytes, or tells none, was asked nothing and has met no fault
pub record IsFresh {F : Type 0} (g : FileMeanings F) (s : Shape) (d : ℕ) (name : List ℕ) (asked : Option Asked) (known : Option (List ℕ))
    (store : StoreView F) : Type 0 where
  pub shape : store.shape ≡ s
  pub depth : store.depth ≡ d
  pub bytes : g.bytes store.file ≡ known
  pub no_places : g.asked store.file ≡ option_map (λ _. []) asked
  pub named : OnSome asked (g.name store.file ≡ name)
  pub no_faults : g.faults store.file ≡ 0

-- what opening files of a folder keeps: what it holds and the places that it was asked; and its count of faults did not fall
pub record KeepsFolder {D F : Type 0} (d : FolderMeanings D F) (before after : D) : Type 0 where
  pub files : d.files after ≡ d.files before
  pub asked : d.asked after ≡ d.asked before
  pub faults : d.faults before ≤ d.faults after
