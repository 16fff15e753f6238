-- What reading the words of a named command may answer, from what its kind, its `clap` command and its values do.
use Rattle.std.proofs.Common.{◌≡◌, List, Option, Some, None, true, Result, Ok, Err, refl, sym, ap, ◌∙◌, subst}
use Rattle.std.specs.Prelude.{IsNone, IsErr, IfSome, is_some, option_map}
use Rattle.std.specs.Option.{ok_or}
use Rattle.std.specs.Result.{IsErrAnd}
use Rattle.clap.specs.declared.parser.matches.ArgMatches.{ArgMatches}
use Rattle.std.proofs.lemmas.Bool.{false≢true}
use Rattle.clap.specs.Words.{Row, Rule, Text, is_simple_and_free}
use Rattle.vt_command_words.specs.Arguments.{app, found, given, are_simple}
use Rattle.vt_command_words.specs.Reading.{asked_by, IsReadAnswer}
use Rattle.vt_command_words.specs.declared.arguments.WordsError.{WordsError}
use Rattle.vt_command_words.specs.declared.arguments.WordsError.TheVariants.{Usage}

-- what is asked for, by the kind that was found and the rows that its command was made of
pub asked_of : (K T : Type 0) (kind_of : Text → Option K) (rules_of : K → List Rule) (values_for : K → List Row → Option T) (name : Text)
    (words : List Text) (it : K) (rules : List Rule) → kind_of name ≡ Some it → rules ≡ rules_of it
    → asked_by kind_of rules_of values_for name words ≡ given (found (app name rules) words) (values_for it)
asked_of K T kind_of rules_of values_for name words it rules is by =
    ap (λ (k : Option K). given k (λ (kind : K). given (found (app name (rules_of kind)) words) (values_for kind))) is
    ∙ ap (λ (r : List Rule). given (found (app name r) words) (values_for it)) (sym by)

-- no command has such a name
pub not_named : (C K T : Type 0) (shown : C → T) (fits : C → Type 0) (kind_of : Text → Option K) (rules_of : K → List Rule)
    (values_for : K → List Row → Option T) (name : Text) (words : List Text) → kind_of name ≡ None
    → IsReadAnswer shown fits (asked_by kind_of rules_of values_for name words) (Err Usage)
not_named C K T shown fits kind_of rules_of values_for name words none = record {
  read = tt;
  usage = λ h.
      ap (λ (k : Option K). is_some (given k (λ (kind : K). given (found (app name (rules_of kind)) words) (values_for kind)))) none;
  lawful = tt;
}

-- the command of these rows is simple, whatever its name
pub simple_by : (name : Text) (rules these : List Rule) → rules ≡ these → are_simple these ≡ true → is_simple_and_free (app name rules) ≡ true
simple_by name rules these is simple = ap (λ (r : List Rule). is_simple_and_free (app name r)) is ∙ simple

-- the words that were not found
pub not_found : (C T : Type 0) (shown : C → T) (fits : C → Type 0) (rows : Option (List Row)) (next : List Row → Option T) (error : WordsError)
    (result : Result C WordsError) → IsErrAnd result (λ e. e ≡ error)
    → (◌≡◌ {A = Result ArgMatches WordsError} (Err error) (Err Usage) → IsNone rows) → IsReadAnswer shown fits (given rows next) result
not_found C T shown fits rows next error (Ok command) is usage = absurd is
not_found C T shown fits None next error (Err e) is usage = record { read = tt; usage = λ h. refl; lawful = tt }
not_found C T shown fits (Some rows) next error (Err e) is usage =
    record { read = tt; usage = λ h. absurd (false≢true (sym (usage (let same : error ≡ Usage = cc in ap Err same)))); lawful = tt }

-- the words that were found
pub is_found : (C T : Type 0) (shown : C → T) (fits : C → Type 0) (rows : Option (List Row)) (these : List Row) (next : List Row → Option T)
    (value : Option C) → rows ≡ Some these → option_map shown value ≡ next these → IfSome value fits
    → IsReadAnswer shown fits (given rows next) (ok_or value Usage)
is_found C T shown fits rows these next None is shows lawful =
    record { read = tt; usage = λ h. ap is_some (ap (λ (r : Option (List Row)). given r next) is ∙ sym shows); lawful = tt }
is_found C T shown fits rows these next (Some command) is shows lawful =
    record { read = ap (λ (r : Option (List Row)). given r next) is ∙ sym shows; usage = λ h. cc; lawful = lawful }

-- what is asked for is the same where texts are
pub same_asked : (C T : Type 0) (shown : C → T) (fits : C → Type 0) (asked other : Option T) (result : Result C WordsError) → asked ≡ other
    → IsReadAnswer shown fits other result → IsReadAnswer shown fits asked result
same_asked C T shown fits asked other result e is = subst (λ (o : Option T). IsReadAnswer shown fits o result) (sym e) is

-- a command that is made of one that was read
pub wrapped_ok : (C D T U : Type 0) (shown : C → T) (fits : C → Type 0) (shown_as : D → U) (fits_as : D → Type 0) (make : T → U) (wrap : C → D)
    (asked : Option T) (command : C) → ((c : C) → make (shown c) ≡ shown_as (wrap c)) → ((c : C) → fits c → fits_as (wrap c))
    → IsReadAnswer shown fits asked (Ok command) → IsReadAnswer shown_as fits_as (option_map make asked) (Ok (wrap command))
wrapped_ok C D T U shown fits shown_as fits_as make wrap asked command shows lawful is = record {
  read = ap (option_map make) is.read ∙ ap Some (shows command);
  usage = λ h. cc;
  lawful = lawful command is.lawful;
}

-- or of one that was refused
pub wrapped_err : (C D T U : Type 0) (shown : C → T) (fits : C → Type 0) (shown_as : D → U) (fits_as : D → Type 0) (make : T → U)
    (asked : Option T) (error : WordsError) (result : Result D WordsError) → IsErrAnd result (λ e. e ≡ error)
    → IsReadAnswer {C = C} shown fits asked (Err error) → IsReadAnswer shown_as fits_as (option_map make asked) result
wrapped_err C D T U shown fits shown_as fits_as make asked error (Ok command) same is = absurd same
wrapped_err C D T U shown fits shown_as fits_as make None error (Err e) same is = record { read = tt; usage = λ h. refl; lawful = tt }
wrapped_err C D T U shown fits shown_as fits_as make (Some text) error (Err e) same is = record {
  read = tt;
  usage = λ h. absurd (false≢true (sym (is.usage (let usage : error ≡ Usage = cc in ap Err usage))));
  lawful = tt;
}

-- words that ask for nothing are refused
pub must_refuse : (C T : Type 0) (shown : C → T) (fits : C → Type 0) (asked : Option T) (result : Result C WordsError)
    → IsReadAnswer shown fits asked result → IsNone asked → IsErr result
must_refuse C T shown fits asked (Ok command) is none = absurd (false≢true (sym none ∙ ap is_some is.read))
must_refuse C T shown fits asked (Err error) is none = refl
