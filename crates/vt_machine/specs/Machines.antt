-- What a machine is to its callers.
use Rattle.std.specs.Prelude.{◌≡◌, ◌⊎◌, ℕ, Option, None, List, [], ◌∷◌, map, length, All}
use Rattle.vt_outside.specs.declared.outside.File.{Ghosts as FileMeanings}
use Rattle.vt_pages.specs.Shape.{Shape}
use Rattle.vt_pictures.specs.Paths.{PathView}
use Rattle.vt_pictures.specs.JournalTypes.changes.Change.{Change}
use Rattle.vt_tiles.specs.StoreViews.{StoreView}
use Rattle.vt_evict.specs.PlanTypes.batches.Planned.{Planned}
use Rattle.vt_machine.specs.declared.crew.Crew.{Crew}
use Rattle.vt_machine.specs.Requests.{FileState}

-- what a machine was made for: how the texture is cut into pages, how many bytes its samples have, the sides of the pictures, the number of
-- frames and the crew; and the bytes of the store, where they are known
pub record Setup : Type 0 where
  pub shape : Shape
  pub depth : ℕ
  pub width : ℕ
  pub height : ℕ
  pub frames : ℕ
  pub crew : Crew
  pub bytes : Option (List ℕ)

-- the setup of a machine for the pictures of a path
abbrev pub setup_of : Shape → ℕ → PathView → ℕ → Crew → Option (List ℕ) → Setup
setup_of s d path frames crew bytes = record { shape = s; depth = d; width = path.width; height = path.height; frames = frames; crew = crew; bytes = bytes }

-- a machine: what it was made for, the files of its loaders, the journal of its page table, and of the last pass's picture the bytes of
-- each row and how many pixels need each page
pub record MachineState : Type 0 where
  pub setup : Setup
  pub files : List FileState
  pub journal : List Change
  pub rows : List (List ℕ)
  pub counts : List ℕ

-- what a file is, by its meanings
abbrev pub file_state : {F : Type 0} → FileMeanings F → F → FileState
file_state g f = record { name = g.name f; asked = g.asked f; faults = g.faults f }

-- the files of stores
abbrev pub files_of : {F : Type 0} → FileMeanings F → List (StoreView F) → List FileState
files_of g stores = map (λ store. file_state g store.file) stores

-- the bytes that the first of some stores tells
abbrev pub known_bytes : {F : Type 0} → FileMeanings F → List (StoreView F) → Option (List ℕ)
known_bytes g [] = None
known_bytes g (store ∷ stores) = g.bytes store.file

-- a machine is between its passes, or one is prepared, for whatever batch
abbrev pub IsIdleOrReady : Type 0 → (List Planned → Type 0) → Type 0
IsIdleOrReady idle ready = idle ⊎ ((batch : List Planned) × ready batch)

-- there is a store for each loader, each is cut in this way and has samples of so many bytes, and all tell the same bytes, or none does
pub record AreStoresFor {F : Type 0} (g : FileMeanings F) (s : Shape) (d loaders : ℕ) (stores : List (StoreView F)) : Type 0 where
  pub count : length stores ≡ loaders
  pub shapes : All (λ store. store.shape ≡ s) stores
  pub depths : All (λ store. store.depth ≡ d) stores
  pub known : All (λ store. g.bytes store.file ≡ known_bytes g stores) stores
