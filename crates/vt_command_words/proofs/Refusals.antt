-- What the words' `clap` command answers says of what is found in them.
use Rattle.std.proofs.Common.{◌≡◌, ◌∙◌, sym, ap, List, [], ◌∷◌, true, false, inl, inr, Some, None, Result, Ok, Err, rules}
use Rattle.std.specs.Prelude.{IsNone, is_some, if◌then◌else◌}
use Rattle.clap.specs.Walk.{is_empty}
use Rattle.clap.specs.Words.{App, Row, Text, FailsBy, HasMatchesOf, HasKind, Kinds, fault_of, found_of, is_simple_and_free, kind_of, matches_of, rows_of}
use Rattle.clap.specs.declared.error.Error.{Error}
use Rattle.clap.specs.declared.error.kind.ErrorKind.TheVariants.{OutOfMemory}
use Rattle.clap.specs.declared.parser.matches.ArgMatches.{ArgMatches}
use Rattle.vt_command_words.specs.Arguments.{found}
use Rattle.vt_command_words.specs.declared.arguments.WordsError.{WordsError}
use Rattle.vt_command_words.specs.declared.arguments.WordsError.TheVariants.{Usage, NoMemory}
use Rattle.vt_text.proofs.Truths.{each_true}

pub memory_not_usage : {T P : Type 0} → ◌≡◌ {A = Result T WordsError} (Err NoMemory) (Err Usage) → P
memory_not_usage e = cc

pub ok_not_usage : {T P : Type 0} (x : T) → ◌≡◌ {A = Result T WordsError} (Ok x) (Err Usage) → P
ok_not_usage x e = cc

pub usage_of : {T : Type 0} {error : WordsError} → ◌≡◌ {A = Result T WordsError} (Err error) (Err Usage) → error ≡ Usage
usage_of e = cc

-- what an answer without a fault finds
pub found_by : (this that : App) (words : List Text) (matches : ArgMatches) → this ≡ that → is_simple_and_free that ≡ true
    → (is_simple_and_free this ≡ true → FailsBy (fault_of this words) (Ok matches)) → HasMatchesOf this words matches
    → found that words ≡ Some (rows_of (found_of matches))
found_by this that words matches same simple kinds rows =
    let free = ap is_simple_and_free same ∙ simple in
    let parts = each_true _ _ free in
    ap (λ (a : App). found a words) (sym same) ∙ ap (λ (k : Kinds). if is_empty k then Some (matches_of this words) else None) (kinds free)
    ∙ ap Some (sym (rows parts.0).0)

some_fault : (kinds : Kinds) (rows : List Row) (error : Error) → HasKind kinds error → (kind_of error ≡ OutOfMemory → ⊥)
    → IsNone (if is_empty kinds then Some rows else None)
some_fault kinds rows error (inl memory) other = absurd (other memory)
some_fault [] rows error (inr among) other = absurd among
some_fault (k ∷ ks) rows error (inr among) other = let full : is_empty (k ∷ ks) ≡ false = search rules in rw full

-- one with a fault that is not want of memory finds nothing
pub nothing_by : (this that : App) (words : List Text) (error : Error) → this ≡ that → is_simple_and_free that ≡ true
    → (is_simple_and_free this ≡ true → FailsBy {T = ArgMatches} (fault_of this words) (Err error)) → (kind_of error ≡ OutOfMemory → ⊥)
    → IsNone (found that words)
nothing_by this that words error same simple kinds other =
    ap (λ (a : App). is_some (found a words)) (sym same)
    ∙ some_fault (fault_of this words) (matches_of this words) error (kinds (ap is_simple_and_free same ∙ simple)) other
