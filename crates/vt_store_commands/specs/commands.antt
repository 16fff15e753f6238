-- The commands that neither walk nor replay: their words, and what each has to do. A command is a line here in each list.
pub mod Plain
pub mod Tile
pub mod Info
pub mod Gen
pub mod Upgrade
use Rattle.std.specs.Prelude.{ℕ, List, Option, Some, None, option_map, codes, if◌then◌else◌}
use Rattle.std.specs.Str.{bytes_eq}
use Rattle.clap.specs.Words.{Row, Rule, Text}
use Rattle.vt_definitions.specs.Tiles.{IsTileSide}
use Rattle.vt_command_words.specs.Reading.{asked_by}
use Rattle.vt_command_inputs.specs.Tasks.{Task}
use Rattle.vt_command_inputs.specs.CommandSpecs.{CommandSpec, task_spec}
use Rattle.vt_store_commands.specs.commands.Plain.{PlainText, plain_rules, plain_values, shown_plain, plain_task}
use Rattle.vt_store_commands.specs.commands.Tile.{TileText, tile_rules, tile_values, shown_tile, tile_task}
use Rattle.vt_store_commands.specs.commands.Info.{InfoText, info_rules, info_values, shown_info, info_task}
use Rattle.vt_store_commands.specs.commands.Gen.{GenText, gen_rules, gen_values, shown_gen, IsLawfulGen, gen_task}
use Rattle.vt_store_commands.specs.commands.Upgrade.{UpgradeText, upgrade_rules, upgrade_values, shown_upgrade, upgrade_task}
use Rattle.vt_store_commands.specs.declared.commands.StoreKind.{StoreKind}
use Rattle.vt_store_commands.specs.declared.commands.StoreKind.TheVariants as kind
use Rattle.vt_store_commands.specs.declared.commands.StoreCommand.{StoreCommand}
use Rattle.vt_store_commands.specs.declared.commands.StoreCommand.TheVariants as command

-- the line that names all commands, for words that are none of theirs
abbrev pub usage_line : List ℕ
usage_line = codes "vtex: usage: vtex COMMAND ARGUMENTS (plain, tile, info, walk, replay, gen, trial, upgrade)\n"

-- a command that neither walks nor replays, and its words
pub data StoreText : Type 0 where
  PlainCommand : PlainText → StoreText
  TileCommand : TileText → StoreText
  InfoCommand : InfoText → StoreText
  GenCommand : GenText → StoreText
  UpgradeCommand : UpgradeText → StoreText

-- the kind of the command of this name; none for any other name
abbrev pub kind_of : Text → Option StoreKind
kind_of name =
    if bytes_eq name (codes "plain") then Some kind.Plain
    else (if bytes_eq name (codes "tile") then Some kind.Tile
    else (if bytes_eq name (codes "info") then Some kind.Info
    else (if bytes_eq name (codes "gen") then Some kind.Gen
    else (if bytes_eq name (codes "upgrade") then Some kind.Upgrade
    else None))))

abbrev pub rules_of : StoreKind → List Rule
rules_of kind.Plain = plain_rules
rules_of kind.Tile = tile_rules
rules_of kind.Info = info_rules
rules_of kind.Gen = gen_rules
rules_of kind.Upgrade = upgrade_rules

-- what the rows say
abbrev pub values_for : StoreKind → List Row → Option StoreText
values_for kind.Plain rows = option_map PlainCommand (plain_values rows)
values_for kind.Tile rows = option_map TileCommand (tile_values rows)
values_for kind.Info rows = option_map InfoCommand (info_values rows)
values_for kind.Gen rows = option_map GenCommand (gen_values rows)
values_for kind.Upgrade rows = option_map UpgradeCommand (upgrade_values rows)

-- what the words of a command of this name ask for
abbrev pub store_text : Text → List Text → Option StoreText
store_text name words = asked_by kind_of rules_of values_for name words

-- the command without where its words lie in memory
abbrev pub shown_store : StoreCommand → StoreText
shown_store (command.Plain words) = PlainCommand (shown_plain words)
shown_store (command.Tile words) = TileCommand (shown_tile words)
shown_store (command.Info words) = InfoCommand (shown_info words)
shown_store (command.Gen words) = GenCommand (shown_gen words)
shown_store (command.Upgrade words) = UpgradeCommand (shown_upgrade words)

-- the numbers among its words are lawful
abbrev pub IsLawfulStore : StoreCommand → Type 0
IsLawfulStore (command.Plain words) = IsTileSide words.tile
IsLawfulStore (command.Tile words) = IsTileSide words.tile
IsLawfulStore (command.Info words) = Unit {0}
IsLawfulStore (command.Gen words) = IsLawfulGen words
IsLawfulStore (command.Upgrade words) = Unit {0}

-- what the command has to do
abbrev pub store_task : StoreText → Task
store_task (PlainCommand words) = plain_task words
store_task (TileCommand words) = tile_task words
store_task (InfoCommand words) = info_task words
store_task (GenCommand words) = gen_task words
store_task (UpgradeCommand words) = upgrade_task words

-- its specification
abbrev pub store_spec : StoreText → CommandSpec
store_spec asked = task_spec (store_task asked)
