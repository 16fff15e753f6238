-- What was there before and after a walk, and how it went.
use Rattle.std.specs.Prelude.{ℕ, List, [], ◌∷◌, Result, MatchResult}
use Rattle.vt_outside.specs.declared.outside.File.{Ghosts as FileMeanings}
use Rattle.vt_outside.specs.declared.outside.Folder.{Ghosts as FolderMeanings}
use Rattle.vt_outside.specs.declared.outside.Sink.{Ghosts as SinkMeanings}
use Rattle.vt_tiles.specs.StoreViews.{StoreView}
use Rattle.vt_walk_decisions.specs.Machines.{file_state}
use Rattle.vt_walk_decisions.specs.Requests.{FileState}
use Rattle.vt_walk_decisions.specs.declared.error.WalkError.{WalkError}
use Rattle.vt_walk.specs.Walks.{WalkGiven}
use Rattle.vt_walk.specs.States.{WalkState, walk_state}
use Rattle.vt_walk.specs.Standing.{Finished}
use Rattle.vt_walk.specs.WalkSteps.{LeftByRefusal}
use Rattle.vt_walk.specs.DrawnBy.{PictureDrawn}

-- what was there before a walk, and what is there after it
pub record WalkEffect : Type 0 where
  pub first : WalkState
  pub last : WalkState

-- the state of a walk by a folder, a sink, the store's name and the open files
abbrev pub state_by : {D F O : Type 0} → FolderMeanings D F → SinkMeanings O → List ℕ → D → O → List FileState → WalkState
state_by d o store folder out opened = walk_state d store folder opened (o.held out) (o.faults out)

-- what a walk did, by the store's name, the files that were open before and after it, and the folder and the sink before and after it
abbrev pub walk_effect : {D F O : Type 0} → FolderMeanings D F → SinkMeanings O → List ℕ → List FileState → List FileState → D → D → O → O → WalkEffect
walk_effect d o store opened_old opened_new folder_old folder_new out_old out_new =
    record { first = state_by d o store folder_old out_old opened_old; last = state_by d o store folder_new out_new opened_new }

-- a store's file alone
abbrev pub file_of : {F : Type 0} → FileMeanings F → StoreView F → List FileState
file_of f store = file_state f store.file ∷ []

-- a walk is finished, or it was refused and has left what it may, for its cause; as its pictures are drawn
abbrev pub Walks : {T : Type 0} → PictureDrawn → WalkGiven → WalkEffect → Result T WalkError → Type 0
Walks drawn given c result =
    MatchResult result (λ _. Finished drawn given c.first c.last) (LeftByRefusal drawn given c.first c.last)
