-- Which machine the words of a command choose.
use Rattle.vt_command_words.specs.Commands.{ReplayCommand, WalkCommand, TrialCommand}
use Rattle.vt_command_words.specs.declared.machines.MachineChoice.{MachineChoice}
use Rattle.vt_command_words.specs.declared.machines.MachineChoice.TheVariants.{Standard}
use Rattle.vt_commands.specs.Words.{CommandText, OfStore, OfWalk}

-- that of a walk's words; the standard one for all other commands, whose words choose none
abbrev pub choice_in : CommandText → MachineChoice
choice_in (OfStore asked) = Standard
choice_in (OfWalk (ReplayCommand words)) = Standard
choice_in (OfWalk (WalkCommand words)) = words.machine
choice_in (OfWalk (TrialCommand words)) = Standard
