-- The word of `trial`.
use Rattle.std.specs.Prelude.{ℕ, List, [], ◌∷◌, Option, Some, codes}
use Rattle.clap.specs.Words.{Row, Rule}
use Rattle.vt_command_words.specs.Arguments.{word, given}
use Rattle.vt_command_words.specs.Numbers.{most_number, number_of, IsBetween}
use Rattle.vt_command_words.specs.declared.trial.TrialWords.{TrialWords}

-- the word as a number
pub record TrialText : Type 0 where
  pub number : ℕ

-- its arguments
unfoldable pub trial_rules : List Rule
trial_rules = word (codes "number") ∷ []

-- what the rows say; nothing where the number is not lawful
abbrev pub trial_values : List Row → Option TrialText
trial_values rows = given (number_of (codes "number") 0 most_number rows) (λ number. Some (record { number = number }))

-- the word without where it lies in memory
abbrev pub shown_trial : TrialWords → TrialText
shown_trial words = record { number = words.number }

-- the number is within its bounds
abbrev pub IsLawfulTrial : TrialWords → Type 0
IsLawfulTrial words = IsBetween 0 most_number words.number
