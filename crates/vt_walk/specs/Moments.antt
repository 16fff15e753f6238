-- A walk at a time, and what each of its steps keeps.
use Rattle.std.specs.Prelude.{◌≡◌, ℕ, ◌≤◌, List, Option}
use Rattle.vt_outside.specs.Files.{Files, Asked}
use Rattle.vt_outside.specs.declared.outside.Folder.{Ghosts as FolderMeanings}
use Rattle.vt_outside.specs.declared.outside.Sink.{Ghosts as SinkMeanings}
use Rattle.vt_plan.specs.Views.{RecencyView}
use Rattle.vt_walk_decisions.specs.Requests.{FileState, AreSameFiles}
use Rattle.vt_walk_decisions.specs.Machines.{MachineState}

-- a walk at a time: what its folder holds and the places that it was asked, where they are known, and its count of faults; the text of its sink
-- and the sink's count; its machine, and the recency of its pages
pub record Moment : Type 0 where
  pub files : Option Files
  pub asked : Option Asked
  pub faults : ℕ
  pub held : Option (List ℕ)
  pub out_faults : ℕ
  pub machine : MachineState
  pub recency : RecencyView

-- that of a folder, a sink, a machine and a recency
abbrev pub moment : {D F O : Type 0} → FolderMeanings D F → SinkMeanings O → D → O → MachineState → RecencyView → Moment
moment d o folder out m v = record {
  files = d.files folder;
  asked = d.asked folder;
  faults = d.faults folder;
  held = o.held out;
  out_faults = o.faults out;
  machine = m;
  recency = v;
}

-- the same with this folder
abbrev pub at_folder : {D F : Type 0} → FolderMeanings D F → D → Moment → Moment
at_folder d folder t = record t { files = d.files folder; asked = d.asked folder; faults = d.faults folder }

-- what no step of a walk takes back: the open files of its machine, the places that its folder itself was asked, where they are known, and the
-- counts of faults of the folder and of the sink
pub record Traces : Type 0 where
  pub opened : List FileState
  pub asked : Option Asked
  pub faults : ℕ
  pub out_faults : ℕ

-- those of a folder, a sink and open files
abbrev pub traces : {D F O : Type 0} → FolderMeanings D F → SinkMeanings O → D → O → List FileState → Traces
traces d o folder out opened =
    record { opened = opened; asked = d.asked folder; faults = d.faults folder; out_faults = o.faults out }

-- the open files are the same, the folder itself was asked nothing, and no count fell
pub record KeepsTraces (before after : Traces) : Type 0 where
  pub same : AreSameFiles before.opened after.opened
  pub asked : after.asked ≡ before.asked
  pub faults : before.faults ≤ after.faults
  pub out_faults : before.out_faults ≤ after.out_faults

-- those of a walk at a time
abbrev pub traces_at : Moment → Traces
traces_at t = record { opened = t.machine.files; asked = t.asked; faults = t.faults; out_faults = t.out_faults }

-- a step keeps them
abbrev pub KeepsWalk : Moment → Moment → Type 0
KeepsWalk before after = KeepsTraces (traces_at before) (traces_at after)
