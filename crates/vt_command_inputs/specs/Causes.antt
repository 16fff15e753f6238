-- What stands in a command's way among its inputs: the first in their order decides.
use Rattle.std.specs.Prelude.{◌≡◌, ◌⊎◌, ℕ, List, [], ◌∷◌, ◌++◌, Option, Some, option_map}
use Rattle.vt_outside.specs.Files.{Files, Asked, bytes_at, with_places}
use Rattle.vt_outside.specs.declared.place.Place.{Place}
use Rattle.vt_outside.specs.Effects.{FolderEffect}
use Rattle.vt_command_inputs.specs.Inputs.{Input, InputContent, name_of, MayAsk}
use Rattle.vt_command_inputs.specs.HeldInputs.{Holds, HasFlaw, IsMissing}
use Rattle.vt_command_inputs.specs.declared.flaws.Flaw.{Flaw}

-- a name that is missing, or the flaw of the input of a name
pub data Cause : Type 0 where
  MissingName : List ℕ → Cause
  FlawedInput : List ℕ → Flaw → Cause

-- the status of a cause
abbrev pub cause_status : Cause → ℕ
cause_status (MissingName name) = 3
cause_status (FlawedInput name flaw) = 4

-- an input has this cause
abbrev pub HasCause : Option Files → Input → Cause → Type 0
HasCause files input (MissingName name) = (name ≡ name_of input) × IsMissing files input
HasCause files input (FlawedInput name flaw) = (name ≡ name_of input) × HasFlaw files input flaw

-- an input is there and accepted
abbrev pub IsAccepted : Option Files → Input → Type 0
IsAccepted files input = (content : InputContent) × Holds files input content

-- the inputs hold these contents, one by one
abbrev pub AreHeld : Option Files → List Input → List InputContent → Type 0
AreHeld files [] [] = Unit {0}
AreHeld files (input ∷ inputs) (content ∷ contents) = Holds files input content × AreHeld files inputs contents
AreHeld files _ _ = ⊥

-- this is the cause of an input, and each input before it is accepted
abbrev pub IsFirstCause : Option Files → List Input → Cause → Type 0
IsFirstCause files [] cause = ⊥
IsFirstCause files (input ∷ inputs) cause = HasCause files input cause ⊎ (IsAccepted files input × IsFirstCause files inputs cause)

-- each input was asked in order for places that it may be asked for, and no other name was
abbrev pub AreAsked : Option Files → List Input → Option Asked → Option Asked → Type 0
AreAsked files [] before after = after ≡ before
AreAsked files (input ∷ inputs) before after =
    (places : List Place) × MayAsk input (bytes_at files (name_of input)) places
    × AreAsked files inputs (option_map (with_places (name_of input) (Some places)) before) after

-- some of the inputs, from the first on, were asked
pub record AsksInOrder (inputs : List Input) (p : FolderEffect) : Type 0 where
  pub some : List Input
  pub rest : List Input
  pub split : inputs ≡ some ++ rest
  pub asked : AreAsked p.before.files some p.before.asked p.after.asked

-- no place was asked, or an input was asked for places that it may be asked for
abbrev pub IsAskedOrNot : Option Files → Input → Option Asked → Option Asked → Type 0
IsAskedOrNot files input before after = (after ≡ before)
    ⊎ ((places : List Place) × MayAsk input (bytes_at files (name_of input)) places
    × (after ≡ option_map (with_places (name_of input) (Some places)) before))

-- some of these inputs were asked, each at most once and in this order
abbrev pub AreAskedOrNot : Option Files → List Input → Option Asked → Option Asked → Type 0
AreAskedOrNot files [] before after = after ≡ before
AreAskedOrNot files (input ∷ inputs) before after =
    (mid : Option Asked) × IsAskedOrNot files input before mid × AreAskedOrNot files inputs mid after

-- some of these inputs were asked, and no other name was
abbrev pub AsksSome : List Input → FolderEffect → Type 0
AsksSome inputs p = AreAskedOrNot p.before.files inputs p.before.asked p.after.asked

-- all inputs are there and accepted, so that there is no first cause
abbrev pub AreAccepted : Option Files → List Input → Type 0
AreAccepted files [] = Unit {0}
AreAccepted files (input ∷ inputs) = IsAccepted files input × AreAccepted files inputs
