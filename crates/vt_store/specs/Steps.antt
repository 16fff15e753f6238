-- One step of writing a store: bytes that are made are added to the name, while the next ones are made.
use Rattle.std.specs.Prelude.{◌≡◌, ◌⊎◌, ℕ, ◌≤◌, List, take, option_map, Result, Ok, Err}
use Rattle.vt_outside.specs.Counts.{Rose}
use Rattle.vt_outside.specs.Effects.{FolderEffect}
use Rattle.vt_outside.specs.Files.{IsThere, with_appended}
use Rattle.vt_outside.specs.declared.answers.OutsideError.{OutsideError}
use Rattle.vt_outside.specs.declared.answers.OutsideError.TheVariants as outside_error
use Rattle.vt_tiles.specs.declared.error.StoreError.{StoreError}
use Rattle.vt_tiles.specs.declared.error.StoreError.TheVariants.{Failed}
use Rattle.vt_tiles.specs.Refusals.{IsOutsideRefusal}

-- what is so where the next bytes were made, and where their read failed
abbrev pub Makes : {T E : Type 0} → Type 0 → Type 0 → Result T E → Type 0
Makes made lost (Ok _) = made
Makes made lost (Err _) = lost

-- a prefix of the bytes was added to the name, and the call failed only where the count rose
pub record AddsFront (name bytes : List ℕ) (folder : FolderEffect) (e : OutsideError) : Type 0 where
  pub part : ℕ
  pub held : folder.after.files ≡ option_map (with_appended name (take part bytes)) folder.before.files
  pub rose : e ≡ outside_error.Failed → IsThere folder.before.files name → Rose folder.before.faults folder.after.faults

-- the bytes were added to the name, or a prefix of them
abbrev pub AddsBytes : {T : Type 0} → List ℕ → List ℕ → FolderEffect → Result T OutsideError → Type 0
AddsBytes name bytes folder (Ok _) = folder.after.files ≡ option_map (with_appended name bytes) folder.before.files
AddsBytes name bytes folder (Err e) = AddsFront name bytes folder e

-- the folder was asked for no place, and its count of faults did not fall
pub record AsksNoPlace (folder : FolderEffect) : Type 0 where
  pub asked : folder.after.asked ≡ folder.before.asked
  pub faults : folder.before.faults ≤ folder.after.faults

-- the bytes were added, and the next ones made
pub record StepDone (next : Type 0) (name bytes : List ℕ) (folder : FolderEffect) : Type 0 where
  pub added : folder.after.files ≡ option_map (with_appended name bytes) folder.before.files
  pub made : next

-- a prefix of the bytes was added, and some of the file was read. The step failed only where one of the counts rose
pub record StepStopped (tried risen : Type 0) (name bytes : List ℕ) (folder : FolderEffect) (e : StoreError) : Type 0 where
  pub part : ℕ
  pub held : folder.after.files ≡ option_map (with_appended name (take part bytes)) folder.before.files
  pub read : tried
  pub rose : e ≡ Failed → IsThere folder.before.files name → Rose folder.before.faults folder.after.faults ⊎ risen
  pub outside : IsOutsideRefusal e

-- the step of a store
abbrev pub Steps : {T : Type 0} → Type 0 → Type 0 → Type 0 → List ℕ → List ℕ → FolderEffect → Result T StoreError → Type 0
Steps next tried risen name bytes folder (Ok _) = StepDone next name bytes folder
Steps next tried risen name bytes folder (Err e) = StepStopped tried risen name bytes folder e
