-- The command `info`: what the header of a tile store says.
use Rattle.std.specs.Prelude.{List, [], ◌∷◌, Option, Some, codes}
use Rattle.clap.specs.Words.{Row, Rule, Text, first_of}
use Rattle.vt_command_words.specs.Arguments.{word, given}
use Rattle.vt_store_commands.specs.declared.commands.info.InfoWords.{InfoWords}
use Rattle.vt_command_inputs.specs.Lines.{store_line}
use Rattle.vt_command_inputs.specs.Inputs.{InputContent, StoreInput, StoreContent}
use Rattle.vt_outside.specs.Expectations.{Expected}
use Rattle.vt_command_inputs.specs.Tasks.{Task}

-- the word as a name
pub record InfoText : Type 0 where
  pub store : Text

-- its arguments
unfoldable pub info_rules : List Rule
info_rules = word (codes "store") ∷ []

-- what the rows say
abbrev pub info_values : List Row → Option InfoText
info_values rows = given (first_of (codes "store") rows) (λ store. Some (record { store = store }))

-- the word without where it lies in memory
abbrev pub shown_info : InfoWords → InfoText
shown_info words = record { store = words.store.now }

-- the store's line alone
abbrev pub expected_info : List InputContent → Expected
expected_info (StoreContent shape depth ∷ []) = record { files = []; text = store_line shape depth }
expected_info other = record { files = []; text = [] }

-- `info` reads a store
abbrev pub info_task : InfoText → Task
info_task words = record { inputs = StoreInput words.store ∷ []; expected = expected_info }
