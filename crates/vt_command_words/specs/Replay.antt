-- The words of `replay`.
use Rattle.std.specs.Prelude.{◌≡◌, List, [], ◌∷◌, Option, Some, None, false, codes, if◌then◌else◌}
use Rattle.clap.specs.Words.{Row, Rule, Text, first_of}
use Rattle.vt_command_words.specs.Arguments.{word, given}
use Rattle.vt_command_words.specs.Filters.{filter_option, filter_of}
use Rattle.vt_command_words.specs.Journals.{names_clash}
use Rattle.vt_command_words.specs.declared.filters.Filtering.{Filtering}
use Rattle.vt_command_words.specs.declared.replay.ReplayWords.{ReplayWords}

-- the words as names and a filter
pub record ReplayText : Type 0 where
  pub store : Text
  pub path : Text
  pub journal : Text
  pub prefix : Text
  pub filter : Filtering

-- its arguments
unfoldable pub replay_rules : List Rule
replay_rules = word (codes "store") ∷ word (codes "path") ∷ word (codes "journal") ∷ word (codes "prefix") ∷ filter_option ∷ []

-- what the rows say; nothing where the filter is not lawful or names clash
abbrev pub replay_values : List Row → Option ReplayText
replay_values rows =
    given (first_of (codes "store") rows) (λ store.
    given (first_of (codes "path") rows) (λ path.
    given (first_of (codes "journal") rows) (λ journal.
    given (first_of (codes "prefix") rows) (λ prefix.
    given (filter_of rows) (λ filter.
    if names_clash store path journal prefix then None
    else Some (record { store = store; path = path; journal = journal; prefix = prefix; filter = filter }))))))

-- the words without where they lie in memory
abbrev pub shown_replay : ReplayWords → ReplayText
shown_replay words = record {
  store = words.store.now;
  path = words.path.now;
  journal = words.journal.now;
  prefix = words.prefix.now;
  filter = words.filter;
}

-- no names clash
abbrev pub IsLawfulReplay : ReplayWords → Type 0
IsLawfulReplay words = names_clash words.store.now words.path.now words.journal.now words.prefix.now ≡ false
