-- What the top call says of a run, by what it was given and what it left, and its status.
use Rattle.std.specs.Prelude.{◌≡◌, ◌≢◌, ◌≤◌, ◌⊎◌, ℕ, List, Some, IsNone}
use Rattle.vt_outside.specs.declared.outside.Folder.{Ghosts as FolderMeanings}
use Rattle.vt_outside.specs.declared.outside.Sink.{Ghosts as SinkMeanings}
use Rattle.vt_command_inputs.specs.Places.{bad_input_line}
use Rattle.vt_command_inputs.specs.Effects.{CallEffect, SinkEffect, call_effect, sink_effect, IsWithoutEffect, HasNoEffect}
use Rattle.vt_command_inputs.specs.Flaws.{flaw_place}
use Rattle.vt_command_inputs.specs.Inputs.{InputContent}
use Rattle.vt_command_inputs.specs.Lines.{memory_line, fault_line}
use Rattle.vt_command_inputs.specs.Refusals.{Printed}
use Rattle.vt_command_inputs.specs.Causes.{Cause, cause_status, IsFirstCause, AreHeld}
use Rattle.vt_command_inputs.specs.CommandSpecs.{Conflict, conflict_status, conflict_line, DoneBy, LeftBySpec, IsInConflict, HasFaultBy, HasBadInputBy}
use Rattle.vt_commands.specs.Words.{CommandText, command_text}
use Rattle.vt_walk_commands.specs.StoreCommandsCommands.{usage_line}
use Rattle.vt_walk_commands.specs.Machines.{Machines}
use Rattle.vt_commands.specs.commands.{spec_of}
use Rattle.vt_command_inputs.specs.declared.flaws.Flaw.{Flaw}

-- a run: the kinds of machines by which it may walk, its words, the folder and the output before and after it, and the error output
pub record Run : Type 1 where
  pub machines : Machines
  pub words : List (List ℕ)
  pub call_effect : CallEffect
  pub err : SinkEffect

-- the run with kinds of machines, words, and a folder, an output and an error output before and after it
abbrev pub run_of : {D F O E : Type 0} → Machines → FolderMeanings D F → SinkMeanings O → SinkMeanings E → List (List ℕ) → D → D → O → O → E → E → Run
run_of machines d o e words folder_old folder_new out_old out_new err_old err_new =
    record { machines = machines; words = words; call_effect = call_effect d o folder_old folder_new out_old out_new; err = sink_effect e err_old err_new }

-- the words ask for a command
abbrev pub Asks : List (List ℕ) → CommandText → Type 0
Asks words command = command_text words ≡ Some command

-- the words are those of no command
abbrev pub NamesNoCommand : List (List ℕ) → Type 0
NamesNoCommand words = IsNone (command_text words)

-- the words' command is done
abbrev pub RunDone : Run → Type 0
RunDone run = (command : CommandText) × Asks run.words command × DoneBy (spec_of run.machines command) run.call_effect

-- the words' command left a part of what is expected
abbrev pub RunLeft : Run → Type 0
RunLeft run = (command : CommandText) → Asks run.words command → LeftBySpec (spec_of run.machines command) run.call_effect

-- nothing was asked but what the words' command asks
abbrev pub RunAsked : Run → Type 0
RunAsked run = (command : CommandText) → Asks run.words command → (spec_of run.machines command).asks run.call_effect

-- a call failed, or the first cause among the inputs is a missing name
abbrev pub RunFault : Run → Type 0
RunFault run = (command : CommandText) × Asks run.words command × HasFaultBy (spec_of run.machines command) run.call_effect

-- an input is refused for a flaw, and its line was printed
pub record RunBadInput (run : Run) : Type 0 where
  pub command : CommandText
  pub asks : Asks run.words command
  pub name : List ℕ
  pub flaw : Flaw
  pub bad : HasBadInputBy (spec_of run.machines command) run.call_effect name flaw
  pub printed : Printed (bad_input_line name (flaw_place flaw)) run.err

-- something of this status stands in the way of what the inputs hold together, and its line was printed
pub record RunInConflict (run : Run) (status : ℕ) : Type 0 where
  pub command : CommandText
  pub asks : Asks run.words command
  pub conflict : Conflict
  pub comes : conflict_status conflict ≡ status
  pub met : IsInConflict (spec_of run.machines command) run.call_effect conflict
  pub printed : Printed (conflict_line usage_line conflict) run.err

-- where no call failed, the status is that of the first cause among the inputs, but for want of memory
abbrev pub RunCaused : Run → ℕ → Type 0
RunCaused run status = (command : CommandText) (cause : Cause) → Asks run.words command → ((spec_of run.machines command).failed run.call_effect → ⊥)
    → IsFirstCause run.call_effect.folder.before.files (spec_of run.machines command).inputs cause → (status ≡ cause_status cause) ⊎ (status ≡ 1)

-- where no call failed and the inputs are accepted, the status is that of what stands in the way of what they hold
abbrev pub RunStopped : Run → ℕ → Type 0
RunStopped run status = (command : CommandText) (contents : List InputContent) (conflict : Conflict) → Asks run.words command
    → ((spec_of run.machines command).failed run.call_effect → ⊥)
    → AreHeld run.call_effect.folder.before.files (spec_of run.machines command).inputs contents
    → (spec_of run.machines command).conflicts contents conflict → (status ≡ conflict_status conflict) ⊎ (status ≡ 1)

-- and where nothing does, it is 0
abbrev pub RunComplete : Run → ℕ → Type 0
RunComplete run status = (command : CommandText) (contents : List InputContent) → Asks run.words command
    → ((spec_of run.machines command).failed run.call_effect → ⊥)
    → AreHeld run.call_effect.folder.before.files (spec_of run.machines command).inputs contents
    → ((conflict : Conflict) → (spec_of run.machines command).conflicts contents conflict → ⊥) → (status ≡ 0) ⊎ (status ≡ 1)

-- all that the top call says of a run that answered this status
pub record IsRun (run : Run) (status : ℕ) : Type 0 where
  pub statuses : status ≤ 5
  -- on status 0 all that is expected is there, else a part of it, in its order
  pub done : status ≡ 0 → RunDone run
  pub left : status ≢ 0 → RunLeft run
  -- words and inputs that are refused leave all as it was, whether or not the folder's content is known
  pub untouched : (status ≡ 2) ⊎ (status ≡ 4) → IsWithoutEffect run.call_effect
  -- nothing but the command's inputs is read, and of words that are none of a command's the folder is not asked at all
  pub asked : RunAsked run
  pub idle : NamesNoCommand run.words → HasNoEffect run.call_effect
  -- the causes of the refusals: the first among the inputs decides
  pub usage : status ≡ 2 → NamesNoCommand run.words ⊎ RunInConflict run 2
  pub no_command : NamesNoCommand run.words → (status ≡ 2) ⊎ (status ≡ 1)
  pub fault : status ≡ 3 → RunFault run
  pub bad_input : status ≡ 4 → RunBadInput run
  pub in_conflict : status ≡ 5 → RunInConflict run 5
  -- where no call failed, the status is that of the first cause, and 0 where there is none; but memory may be wanting
  pub caused : RunCaused run status
  pub stopped : RunStopped run status
  pub complete : RunComplete run status
  -- the line on the error output, or a prefix of it where a put on it was refused
  pub silent : status ≡ 0 → run.err.after.held ≡ run.err.before.held
  pub memory_printed : status ≡ 1 → Printed memory_line run.err
  pub usage_printed : status ≡ 2 → Printed usage_line run.err
  pub fault_printed : status ≡ 3 → Printed fault_line run.err
