-- The commands that walk or replay, and their words.
use Rattle.std.specs.Prelude.{List, Option, Some, None, option_map, codes, if◌then◌else◌}
use Rattle.std.specs.Str.{bytes_eq}
use Rattle.clap.specs.Words.{Row, Rule, Text}
use Rattle.vt_command_words.specs.Reading.{asked_by}
use Rattle.vt_command_words.specs.Replay.{ReplayText, replay_rules, replay_values, shown_replay, IsLawfulReplay}
use Rattle.vt_command_words.specs.Walk.{WalkText, walk_rules, walk_values, shown_walk, IsLawfulWalk}
use Rattle.vt_command_words.specs.Trial.{TrialText, trial_rules, trial_values, shown_trial, IsLawfulTrial}
use Rattle.vt_command_words.specs.declared.command.WalkingKind.{WalkingKind}
use Rattle.vt_command_words.specs.declared.command.WalkingKind.TheVariants as kind
use Rattle.vt_command_words.specs.declared.command.WalkingCommand.{WalkingCommand}
use Rattle.vt_command_words.specs.declared.command.WalkingCommand.TheVariants.{Replay, Walk, Trial}

-- a command that walks or replays, and its words
pub data WalkingText : Type 0 where
  ReplayCommand : ReplayText → WalkingText
  WalkCommand : WalkText → WalkingText
  TrialCommand : TrialText → WalkingText

-- the kind of the command of this name; none for any other name
abbrev pub walking_kind_of : Text → Option WalkingKind
walking_kind_of name =
    if bytes_eq name (codes "replay") then Some kind.Replay
    else (if bytes_eq name (codes "walk") then Some kind.Walk
    else (if bytes_eq name (codes "trial") then Some kind.Trial
    else None))

abbrev pub rules_of : WalkingKind → List Rule
rules_of kind.Replay = replay_rules
rules_of kind.Walk = walk_rules
rules_of kind.Trial = trial_rules

-- what the rows say
abbrev pub values_for : WalkingKind → List Row → Option WalkingText
values_for kind.Replay rows = option_map ReplayCommand (replay_values rows)
values_for kind.Walk rows = option_map WalkCommand (walk_values rows)
values_for kind.Trial rows = option_map TrialCommand (trial_values rows)

-- what the words of a command of this name ask for
abbrev pub walking_text : Text → List Text → Option WalkingText
walking_text name words = asked_by walking_kind_of rules_of values_for name words

-- the command without where its words lie in memory
abbrev pub shown_walking : WalkingCommand → WalkingText
shown_walking (Replay words) = ReplayCommand (shown_replay words)
shown_walking (Walk words) = WalkCommand (shown_walk words)
shown_walking (Trial words) = TrialCommand (shown_trial words)

-- the numbers among its words are lawful, and no names clash
abbrev pub IsLawfulWalking : WalkingCommand → Type 0
IsLawfulWalking (Replay words) = IsLawfulReplay words
IsLawfulWalking (Walk words) = IsLawfulWalk words
IsLawfulWalking (Trial words) = IsLawfulTrial words
