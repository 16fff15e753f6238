-- The arguments of a command, and what `clap` finds for them.
use Rattle.std.specs.Prelude.{List, [], ◌∷◌, Option, Some, None, option_and_then, Bool, true, false, if◌then◌else◌, map, string_bytes, String, codes}
use Rattle.std.specs.Option.{option_map_or}
use Rattle.std.specs.Str.{bytes_eq}
use Rattle.std.specs.declared.alloc.Global.{Global}
use Rattle.clap.specs.Words.{App, Row, Rule, Text, new_app, new_rule, fault_of, matches_of, first_of, is_simple_and_free}
use Rattle.clap.specs.Simple.{on_top}
use Rattle.clap.specs.Walk.{is_empty}
use Rattle.clap.specs.declared.builder.action.ArgAction.TheVariants.{SetTrue}
use Rattle.vt_command_words.specs.declared.arguments.Argument.{Argument}
use Rattle.vt_command_words.specs.declared.arguments.Argument.TheVariants as argument

-- a word that is required; such words are in the order of the rows
abbrev pub word : Text → Rule
word id = record (new_rule id) { required = true }

-- an option: its long name with one value, and the value that it has where it is not given
abbrev pub option : Text → Text → Rule
option id default = record (new_rule id) { long = Some id; defaults = default ∷ [] }

-- a flag: its long name, with no value
abbrev pub flag : Text → Rule
flag id = record (new_rule id) { long = Some id; action = Some SetTrue }

-- the rule of a row
abbrev pub rule_for : Argument → Rule
rule_for (argument.Word id) = word id.now
rule_for (argument.Option id default) = option id.now default.now
rule_for (argument.Flag id) = flag id.now

-- the simple command of a name and its rules, with help and version switched off
abbrev pub app : Text → List Rule → App
app name rules = on_top (λ s. record s { rules = rules; disable_help_flag = true; disable_version_flag = true }) (new_app name)

-- a command of these rules, whatever its name, is one of which `clap` says what it finds
abbrev pub are_simple : List Rule → Bool
are_simple rules = is_simple_and_free (app [] rules)

-- the rows that `clap` finds in the words, of which the first is the command's name; none where it refuses them
abbrev pub found : App → List Text → Option (List Row)
found a words = if is_empty (fault_of a words) then Some (matches_of a words) else None

-- a flag is set: `clap` finds the value `true` for one that is given, and `false` for one that is not
abbrev pub is_set : Text → List Row → Bool
is_set id rows = option_map_or (λ value. bytes_eq value (codes "true")) (first_of id rows) false

-- what the second makes of the value of the first, and none where there is none
abbrev pub given : {X Y : Type 0} → Option X → (X → Option Y) → Option Y
given value next = option_and_then next value

-- the bytes of each word
abbrev pub texts : List (String Global) → List Text
texts words = map string_bytes words
