-- The command `upgrade`: the store of two-byte samples that is made of one of one-byte samples.
use Rattle.std.specs.Prelude.{List, [], ◌∷◌, Option, Some, None, codes, if◌then◌else◌, ℕ}
use Rattle.std.specs.Str.{bytes_eq}
use Rattle.clap.specs.Words.{Row, Rule, Text, first_of}
use Rattle.vt_command_words.specs.Arguments.{word, given}
use Rattle.vt_store_commands.specs.declared.commands.upgrade.UpgradeWords.{UpgradeWords}
use Rattle.vt_pages.specs.Shape.{Shape}
use Rattle.vt_tiles.specs.Format.{store_bytes, stored}
use Rattle.vt_store.specs.Widening.{widened}
use Rattle.vt_command_inputs.specs.Lines.{store_line}
use Rattle.vt_command_inputs.specs.Inputs.{InputContent, NarrowStore, NarrowContent}
use Rattle.vt_outside.specs.Expectations.{Expected}
use Rattle.vt_command_inputs.specs.Tasks.{Task}

-- the words as names
pub record UpgradeText : Type 0 where
  pub store : Text
  pub new_store : Text

-- its arguments
unfoldable pub upgrade_rules : List Rule
upgrade_rules = word (codes "store") ∷ word (codes "new_store") ∷ []

-- what the rows say; nothing where the name that is written is the one that is read
abbrev pub upgrade_values : List Row → Option UpgradeText
upgrade_values rows =
    given (first_of (codes "store") rows) (λ store.
    given (first_of (codes "new_store") rows) (λ new_store.
    if bytes_eq new_store store then None else Some (record { store = store; new_store = new_store })))

-- the words without where they lie in memory
abbrev pub shown_upgrade : UpgradeWords → UpgradeText
shown_upgrade words = record { store = words.store.now; new_store = words.new_store.now }

-- the store of the same pages whose samples are 257 times those of the bytes of a store of one-byte samples
abbrev pub upgraded_file : Shape → List ℕ → List ℕ
upgraded_file shape bytes = store_bytes shape 2 (widened (stored bytes))

-- the new store, and its line
abbrev pub expected_wide : List ℕ → Shape → List ℕ → Expected
expected_wide name shape bytes = record {
  files = (record { name = name; bytes = upgraded_file shape bytes }) ∷ [];
  text = store_line shape 2;
}

abbrev pub expected_upgrade : UpgradeText → List InputContent → Expected
expected_upgrade words (NarrowContent shape bytes ∷ []) = expected_wide words.new_store shape bytes
expected_upgrade words other = record { files = []; text = [] }

-- `upgrade` reads a store that is to have samples of one byte
abbrev pub upgrade_task : UpgradeText → Task
upgrade_task words = record { inputs = NarrowStore words.store ∷ []; expected = expected_upgrade words }
