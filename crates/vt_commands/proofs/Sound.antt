-- What is known of the specification of every command.
use Rattle.std.proofs.Common.{[], List, refl, ap}
use Rattle.vt_command_inputs.specs.Effects.{CallEffect, FolderState, HasNoEffect}
use Rattle.vt_command_inputs.specs.Inputs.{Input}
use Rattle.vt_command_inputs.specs.Causes.{AsksInOrder}
use Rattle.vt_command_inputs.specs.Tasks.{Task}
use Rattle.vt_command_inputs.specs.CommandSpecs.{task_spec}
use Rattle.vt_walk_commands.specs.StoreCommandsCommands.{store_task}
use Rattle.vt_walk_commands.proofs.Sound.{AreSound, replay_sound, walk_sound, trial_sound}
use Rattle.vt_command_words.specs.Commands.{ReplayCommand, WalkCommand, TrialCommand}
use Rattle.vt_commands.specs.Words.{CommandText, OfStore, OfWalk}
use Rattle.vt_walk_commands.specs.Machines.{Machines, chosen}
use Rattle.vt_commands.specs.commands.{spec_of}

-- where nothing was asked, no input was
asks_idle : (inputs : List Input) (c : CallEffect) → HasNoEffect c → AsksInOrder inputs c.folder
asks_idle inputs c idle = record { some = []; rest = inputs; split = refl; asked = ap (λ (s : FolderState). s.asked) idle.folder }

task_sound : (task : Task) → AreSound (task_spec task)
task_sound task = record { one = λ contents a b x y. absurd x; idle = asks_idle task.inputs }

pub sound : (m : Machines) (command : CommandText) → AreSound (spec_of m command)
sound m (OfStore asked) = task_sound (store_task asked)
sound m (OfWalk (ReplayCommand words)) = replay_sound words
sound m (OfWalk (WalkCommand words)) = walk_sound (chosen m words) words
sound m (OfWalk (TrialCommand words)) = trial_sound words
