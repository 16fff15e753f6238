-- The commands: what each has to do, and how a run ends.
use Rattle.std.specs.Prelude.{◌≡◌, ◌⊎◌, ℕ, List, Option, Some, IsNone, Result, Ok, Err}
use Rattle.vt_command_words.specs.Commands.{ReplayCommand, WalkCommand, TrialCommand}
use Rattle.vt_commands.specs.Words.{CommandText, OfStore, OfWalk, command_text}
use Rattle.vt_command_inputs.specs.Effects.{CallEffect, HasNoEffect}
use Rattle.vt_command_inputs.specs.CommandSpecs.{CommandSpec, EndsBy}
use Rattle.vt_walk_commands.specs.StoreCommandsCommands.{store_spec}
use Rattle.vt_walk_commands.specs.commands.Replay.{replay_spec}
use Rattle.vt_walk_commands.specs.commands.Walk.{walk_spec}
use Rattle.vt_walk_commands.specs.commands.Trial.{trial_spec}
use Rattle.vt_walk_commands.specs.Machines.{Machines, chosen}
use Rattle.vt_command_inputs.specs.declared.refusal.Refusal.{Refusal}
use Rattle.vt_command_inputs.specs.declared.refusal.Refusal.TheVariants.{NoMemory, Usage, Fault, Flawed, TooFewFrames, DoesNotFit}

-- the specification of a command by these machines
abbrev pub spec_of : Machines → CommandText → CommandSpec
spec_of m (OfStore asked) = store_spec asked
spec_of m (OfWalk (ReplayCommand words)) = replay_spec words
spec_of m (OfWalk (WalkCommand words)) = walk_spec (chosen m words) words
spec_of m (OfWalk (TrialCommand words)) = trial_spec words

-- a refusal of words: they ask for nothing, or memory was wanting
abbrev pub IsUnread : Option CommandText → Refusal → Type 0
IsUnread asked NoMemory = Unit {0}
IsUnread asked Usage = IsNone asked
IsUnread asked Fault = ⊥
IsUnread asked (Flawed name flaw) = ⊥
IsUnread asked (TooFewFrames frames needed) = ⊥
IsUnread asked (DoesNotFit picture wanted room) = ⊥

-- the words were refused, and nothing was asked
pub record AreWordsRefused (words : List (List ℕ)) (c : CallEffect) (refusal : Refusal) : Type 0 where
  pub unread : IsUnread (command_text words) refusal
  pub idle : HasNoEffect c

-- the words are those of a command, which ended so
pub record EndsCommand {T : Type 0} (m : Machines) (words : List (List ℕ)) (c : CallEffect) (result : Result T Refusal) : Type 0 where
  pub command : CommandText
  pub is : command_text words ≡ Some command
  pub ends : EndsBy (spec_of m command) c result

-- how a run ends
abbrev pub EndsRun : {T : Type 0} → Machines → List (List ℕ) → CallEffect → Result T Refusal → Type 0
EndsRun {T} m words c (Ok value) = EndsCommand {T = T} m words c (Ok value)
EndsRun {T} m words c (Err refusal) = AreWordsRefused words c refusal ⊎ EndsCommand {T = T} m words c (Err refusal)
