-- What words of a command ask for, and what reading them may answer.
use Rattle.std.specs.Prelude.{◌≡◌, List, Option, Some, Result, IfOk, IsErrOf, IsNone}
use Rattle.clap.specs.Words.{Row, Rule, Text}
use Rattle.vt_command_words.specs.Arguments.{app, found, given}
use Rattle.vt_command_words.specs.declared.arguments.WordsError.{WordsError}
use Rattle.vt_command_words.specs.declared.arguments.WordsError.TheVariants.{Usage}

-- what the words of a command of this name ask for, the name the first: its kind, by the name, says which arguments `clap` finds in the
-- words, and what their values say
abbrev pub asked_by : {K T : Type 0} → (Text → Option K) → (K → List Rule) → (K → List Row → Option T) → Text → List Text → Option T
asked_by kind_of rules_of values_for name words =
    given (kind_of name) (λ kind. given (found (app name (rules_of kind)) words) (values_for kind))

-- what reading words that ask for this, or for nothing, may answer, where commands are shown without where their words lie in memory,
-- and their numbers are lawful
pub record IsReadAnswer {C T : Type 0} (shown : C → T) (fits : C → Type 0) (asked : Option T) (result : Result C WordsError) : Type 0 where
  pub read : IfOk result (λ command. asked ≡ Some (shown command))
  pub usage : IsErrOf result Usage → IsNone asked
  pub lawful : IfOk result fits
