-- What a command has to do where only its inputs may stand in its way, and why it was refused by them.
use Rattle.std.specs.Prelude.{◌≡◌, ◌⊎◌, ℕ, List, ◌∷◌, IsSome, ◌++◌}
use Rattle.vt_outside.specs.Counts.{Rose}
use Rattle.vt_outside.specs.Effects.{CallEffect, IsWithoutEffect}
use Rattle.vt_command_inputs.specs.Inputs.{Input, InputContent, name_of, FlawFits}
use Rattle.vt_command_inputs.specs.Causes.{MissingName, FlawedInput, IsFirstCause}
use Rattle.vt_outside.specs.Expectations.{Expected}
use Rattle.vt_command_inputs.specs.declared.flaws.Flaw.{Flaw}
use Rattle.vt_command_inputs.specs.declared.refusal.Refusal.{Refusal}
use Rattle.vt_command_inputs.specs.declared.refusal.Refusal.TheVariants.{NoMemory, Usage, Fault, Flawed, TooFewFrames, DoesNotFit}

-- the inputs in the order in which they are read, and what is expected of what they hold
pub record Task : Type 0 where
  pub inputs : List Input
  pub expected : List InputContent → Expected

-- a count of the folder or of the output rose
abbrev pub HasRisen : CallEffect → Type 0
HasRisen c = Rose c.folder.before.faults c.folder.after.faults ⊎ Rose c.out.before.faults c.out.after.faults

-- an input that is refused by its name and its flaw: the first cause where the folder tells, and else an input that may have such a flaw
pub record HasBadInput (inputs : List Input) (c : CallEffect) (name : List ℕ) (flaw : Flaw) : Type 0 where
  pub input : Input
  pub before : List Input
  pub after : List Input
  pub among : inputs ≡ before ++ (input ∷ after)
  pub name_is : name ≡ name_of input
  pub fits : FlawFits input flaw
  pub first : IsSome c.folder.before.files → IsFirstCause c.folder.before.files inputs (FlawedInput name flaw)
  pub untouched : IsWithoutEffect c

-- why a command with these inputs was refused, where nothing but inputs stood in its way: for a failed call a count rose, or a missing name
-- is the first cause
abbrev pub IsRefusal : List Input → CallEffect → Refusal → Type 0
IsRefusal inputs c NoMemory = Unit {0}
IsRefusal inputs c Usage = ⊥
IsRefusal inputs c Fault = HasRisen c ⊎ ((name : List ℕ) × IsFirstCause c.folder.before.files inputs (MissingName name))
IsRefusal inputs c (Flawed name flaw) = HasBadInput inputs c name.now flaw
IsRefusal inputs c (TooFewFrames frames needed) = ⊥
IsRefusal inputs c (DoesNotFit picture wanted room) = ⊥
