-- The words of `walk`.
use Rattle.std.specs.Prelude.{◌≡◌, ℕ, List, [], ◌∷◌, Option, Some, None, Bool, false, codes, if◌then◌else◌}
use Rattle.clap.specs.Words.{Row, Rule, Text, first_of}
use Rattle.vt_text.specs.Limits.{most_frames, most_samplers, most_loaders, most_entries}
use Rattle.vt_command_words.specs.Arguments.{word, option, flag, given, is_set}
use Rattle.vt_command_words.specs.Filters.{filter_option}
use Rattle.vt_command_words.specs.Journals.{names_clash}
use Rattle.vt_command_words.specs.Machines.{table_option, rows_option, machine_of}
use Rattle.vt_command_words.specs.Numbers.{number_of, IsBetween}
use Rattle.vt_command_words.specs.declared.machines.MachineChoice.{MachineChoice}
use Rattle.vt_command_words.specs.declared.walk.WalkWords.{WalkWords}

-- how many levels may be asked to be pinned at most
abbrev pub most_pinned_levels : ℕ
most_pinned_levels = 16

-- the words as names, numbers, a machine and a flag
pub record WalkText : Type 0 where
  pub store : Text
  pub path : Text
  pub prefix : Text
  pub frames : ℕ
  pub samplers : ℕ
  pub loaders : ℕ
  pub batch : ℕ
  pub pinned : ℕ
  pub journal : Text
  pub machine : MachineChoice
  pub settled : Bool

-- its arguments
unfoldable pub walk_rules : List Rule
walk_rules =
    word (codes "store") ∷ word (codes "path") ∷ word (codes "prefix")
    ∷ option (codes "frames") (codes "64") ∷ option (codes "samplers") (codes "4") ∷ option (codes "loaders") (codes "3")
    ∷ option (codes "batch") (codes "64") ∷ option (codes "pinned") (codes "1") ∷ option (codes "journal") (codes "journal.txt")
    ∷ table_option ∷ rows_option ∷ filter_option ∷ flag (codes "settled") ∷ []

-- what the rows say; nothing where a number is not lawful, the options ask for no machine, or names clash
abbrev pub walk_values : List Row → Option WalkText
walk_values rows =
    given (first_of (codes "store") rows) (λ store.
    given (first_of (codes "path") rows) (λ path.
    given (first_of (codes "prefix") rows) (λ prefix.
    given (number_of (codes "frames") 1 most_frames rows) (λ frames.
    given (number_of (codes "samplers") 1 most_samplers rows) (λ samplers.
    given (number_of (codes "loaders") 1 most_loaders rows) (λ loaders.
    given (number_of (codes "batch") 1 most_entries rows) (λ batch.
    given (number_of (codes "pinned") 1 most_pinned_levels rows) (λ pinned.
    given (first_of (codes "journal") rows) (λ journal.
    given (machine_of rows) (λ machine.
    if names_clash store path journal prefix then None else Some (record {
      store = store;
      path = path;
      prefix = prefix;
      frames = frames;
      samplers = samplers;
      loaders = loaders;
      batch = batch;
      pinned = pinned;
      journal = journal;
      machine = machine;
      settled = is_set (codes "settled") rows;
    })))))))))))

-- the words without where they lie in memory
abbrev pub shown_walk : WalkWords → WalkText
shown_walk words = record {
  store = words.store.now;
  path = words.path.now;
  prefix = words.prefix.now;
  frames = words.frames;
  samplers = words.samplers;
  loaders = words.loaders;
  batch = words.batch;
  pinned = words.pinned;
  journal = words.journal.now;
  machine = words.machine;
  settled = words.settled;
}

-- the numbers are within their bounds, and no names clash
pub record IsLawfulWalk (words : WalkWords) : Type 0 where
  pub frames : IsBetween 1 most_frames words.frames
  pub samplers : IsBetween 1 most_samplers words.samplers
  pub loaders : IsBetween 1 most_loaders words.loaders
  pub batch : IsBetween 1 most_entries words.batch
  pub pinned : IsBetween 1 most_pinned_levels words.pinned
  pub apart : names_clash words.store.now words.path.now words.journal.now words.prefix.now ≡ false
