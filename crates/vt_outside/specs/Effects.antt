-- What was there before and after a call: of a folder, and of a sink.
use Rattle.std.specs.Prelude.{◌≡◌, ℕ, List, Option}
use Rattle.vt_outside.specs.Files.{Files, Asked}
use Rattle.vt_outside.specs.declared.outside.Folder.{Ghosts as FolderMeanings}
use Rattle.vt_outside.specs.declared.outside.Sink.{Ghosts as SinkMeanings}

-- a folder: what it holds and the places that were asked of each name, where they are known, and its count of faults
pub record FolderState : Type 0 where
  pub files : Option Files
  pub asked : Option Asked
  pub faults : ℕ

-- a sink: the text that was put, where it is known, and its counts of faults and of puts refused for memory
pub record SinkState : Type 0 where
  pub held : Option (List ℕ)
  pub faults : ℕ
  pub refusals : ℕ

-- a folder before and after
pub record FolderEffect : Type 0 where
  pub before : FolderState
  pub after : FolderState

-- a sink before and after
pub record SinkEffect : Type 0 where
  pub before : SinkState
  pub after : SinkState

-- the folder and the output before and after a command
pub record CallEffect : Type 0 where
  pub folder : FolderEffect
  pub out : SinkEffect

abbrev pub folder_state : {D F : Type 0} → FolderMeanings D F → D → FolderState
folder_state g d = record { files = g.files d; asked = g.asked d; faults = g.faults d }

abbrev pub sink_state : {S : Type 0} → SinkMeanings S → S → SinkState
sink_state g s = record { held = g.held s; faults = g.faults s; refusals = g.refusals s }

abbrev pub folder_effect : {D F : Type 0} → FolderMeanings D F → D → D → FolderEffect
folder_effect g old new = record { before = folder_state g old; after = folder_state g new }

abbrev pub sink_effect : {S : Type 0} → SinkMeanings S → S → S → SinkEffect
sink_effect g old new = record { before = sink_state g old; after = sink_state g new }

abbrev pub call_effect : {D F O : Type 0} → FolderMeanings D F → SinkMeanings O → D → D → O → O → CallEffect
call_effect d o folder_old folder_new out_old out_new = record { folder = folder_effect d folder_old folder_new; out = sink_effect o out_old out_new }

-- nothing was written
pub record IsWithoutEffect (c : CallEffect) : Type 0 where
  pub files : c.folder.after.files ≡ c.folder.before.files
  pub held : c.out.after.held ≡ c.out.before.held

-- nothing was asked: files, places, text and counts are as before
pub record HasNoEffect (c : CallEffect) : Type 0 where
  pub folder : c.folder.after ≡ c.folder.before
  pub out : c.out.after ≡ c.out.before
