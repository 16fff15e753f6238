-- The commands by their words.
use Rattle.std.specs.Prelude.{ℕ, List, [], ◌∷◌, Option, None, is_some, option_map, Bool, if◌then◌else◌}
use Rattle.vt_command_words.specs.Commands.{WalkingText, ReplayCommand, WalkCommand, TrialCommand, walking_kind_of, walking_text}
use Rattle.vt_command_words.specs.Replay.{shown_replay, IsLawfulReplay}
use Rattle.vt_command_words.specs.Walk.{shown_walk, IsLawfulWalk}
use Rattle.vt_command_words.specs.Trial.{shown_trial, IsLawfulTrial}
use Rattle.vt_command_words.specs.declared.command.WalkingCommand.{WalkingCommand}
use Rattle.vt_command_words.specs.declared.command.WalkingCommand.TheVariants as walking
use Rattle.vt_walk_commands.specs.StoreCommandsCommands.{StoreText, store_text, shown_store, IsLawfulStore}
use Rattle.vt_commands.specs.declared.command.Command.{Command}
use Rattle.vt_commands.specs.declared.command.Command.TheVariants.{Store, Replay, Walk, Trial}

-- a command and its words: one that neither walks nor replays, or one that does
pub data CommandText : Type 0 where
  OfStore : StoreText → CommandText
  OfWalk : WalkingText → CommandText

-- the name is that of a command that walks or replays
abbrev pub is_walking_name : List ℕ → Bool
is_walking_name name = is_some (walking_kind_of name)

-- what the words of a command of this name ask for
abbrev pub named_text : List ℕ → List (List ℕ) → Option CommandText
named_text name words = if is_walking_name name then option_map OfWalk (walking_text name words) else option_map OfStore (store_text name words)

-- what the words after the program's name ask for: the first names the command, and all of them are what its `clap` command is handed
abbrev pub command_text : List (List ℕ) → Option CommandText
command_text [] = None
command_text (name ∷ words) = named_text name (name ∷ words)

-- a command that walks or replays among all commands
abbrev pub command_of : WalkingCommand → Command
command_of (walking.Replay words) = Replay words
command_of (walking.Walk words) = Walk words
command_of (walking.Trial words) = Trial words

-- the command without where its words lie in memory
abbrev pub shown_words : Command → CommandText
shown_words (Store command) = OfStore (shown_store command)
shown_words (Replay words) = OfWalk (ReplayCommand (shown_replay words))
shown_words (Walk words) = OfWalk (WalkCommand (shown_walk words))
shown_words (Trial words) = OfWalk (TrialCommand (shown_trial words))

-- the numbers among the words of a command are lawful
abbrev pub HasLawfulNumbers : Command → Type 0
HasLawfulNumbers (Store command) = IsLawfulStore command
HasLawfulNumbers (Replay words) = IsLawfulReplay words
HasLawfulNumbers (Walk words) = IsLawfulWalk words
HasLawfulNumbers (Trial words) = IsLawfulTrial words
