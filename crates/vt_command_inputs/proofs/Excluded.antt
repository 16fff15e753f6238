-- Of an input that is accepted, of one that is missing and of one that has a flaw, each excludes the others.
use Rattle.std.proofs.Common.{◌≡◌, ℕ, List, [], ◌∷◌, ◌++◌, Option, Some, None, refl, sym, ap, subst, ◌∙◌, inl, inr}
use Rattle.std.specs.Option.{IsSome, is_some}
use Rattle.std.proofs.lemmas.Bool.{false≢true}
use Rattle.vt_outside.specs.Files.{Files, bytes_at}
use Rattle.vt_command_inputs.specs.Inputs.{Input, InputContent, name_of, IsFlawOf}
use Rattle.vt_command_inputs.specs.HeldInputs.{IsMissing}
use Rattle.vt_command_inputs.proofs.Contents.{content_no_flaw}
use Rattle.vt_command_inputs.specs.Causes.{Cause, MissingName, FlawedInput, cause_status, HasCause, IsAccepted, AreHeld, AreAccepted, IsFirstCause}

pub same_bytes : (files : Option Files) (name s t : List ℕ) → bytes_at files name ≡ Some s → bytes_at files name ≡ Some t → s ≡ t
same_bytes files name s t a b = cc

there_not_missing : (files : Option Files) (input : Input) (bytes : List ℕ) → bytes_at files (name_of input) ≡ Some bytes → IsMissing files input → ⊥
there_not_missing files input bytes there missing = false≢true (sym missing.none ∙ ap is_some there)

accepted_no_cause : (files : Option Files) (input : Input) (cause : Cause) → IsAccepted files input → HasCause files input cause → ⊥
accepted_no_cause files input (MissingName name) a h = there_not_missing files input a.1.bytes a.1.there h.1
accepted_no_cause files input (FlawedInput name flaw) a h =
    content_no_flaw input a.1.bytes a.0 flaw a.1.is
    (subst (λ (b : List ℕ). IsFlawOf input b flaw) (same_bytes files (name_of input) h.1.bytes a.1.bytes h.1.there a.1.there) h.1.is)

one_status : (files : Option Files) (input : Input) (a b : Cause) → HasCause files input a → HasCause files input b → cause_status a ≡ cause_status b
one_status files input (MissingName x) (MissingName y) g h = refl
one_status files input (FlawedInput x e) (FlawedInput y f) g h = refl
one_status files input (MissingName x) (FlawedInput y f) g h = absurd (there_not_missing files input h.1.bytes h.1.there g.1)
one_status files input (FlawedInput x e) (MissingName y) g h = absurd (there_not_missing files input g.1.bytes g.1.there h.1)

-- all first causes have one status
pub first_status : (files : Option Files) (inputs : List Input) (a b : Cause) → IsFirstCause files inputs a
    → IsFirstCause files inputs b → cause_status a ≡ cause_status b
first_status files [] a b g h = absurd g
first_status files (input ∷ inputs) a b (inl g) (inl h) = one_status files input a b g h
first_status files (input ∷ inputs) a b (inl g) (inr h) = absurd (accepted_no_cause files input a h.0 g)
first_status files (input ∷ inputs) a b (inr g) (inl h) = absurd (accepted_no_cause files input b g.0 h)
first_status files (input ∷ inputs) a b (inr g) (inr h) = first_status files inputs a b g.1 h.1

-- where all inputs are accepted, there is no first cause
pub none_first : (files : Option Files) (inputs : List Input) (cause : Cause) → AreAccepted files inputs → IsFirstCause files inputs cause → ⊥
none_first files [] cause a h = h
none_first files (input ∷ inputs) cause a (inl h) = accepted_no_cause files input cause a.0 h
none_first files (input ∷ inputs) cause a (inr h) = none_first files inputs cause a.1 h.1

pub held_accepted : (files : Option Files) (inputs : List Input) (contents : List InputContent) → AreHeld files inputs contents → AreAccepted files inputs
held_accepted files [] [] h = tt
held_accepted files [] (content ∷ contents) h = absurd h
held_accepted files (input ∷ inputs) [] h = absurd h
held_accepted files (input ∷ inputs) (content ∷ contents) h = ((content, h.0), held_accepted files inputs contents h.1)

pub there_known : (files : Option Files) (name bytes : List ℕ) → bytes_at files name ≡ Some bytes → IsSome files
there_known None name bytes there = let wrong = there in absurd (cc)
there_known (Some f) name bytes there = refl

cause_known : (files : Option Files) (input : Input) (cause : Cause) → HasCause files input cause → IsSome files
cause_known files input (MissingName name) h = h.1.known
cause_known files input (FlawedInput name flaw) h = there_known files (name_of input) h.1.bytes h.1.there

-- a folder of which a first cause is known tells
pub first_known : (files : Option Files) (inputs : List Input) (cause : Cause) → IsFirstCause files inputs cause → IsSome files
first_known files [] cause h = absurd h
first_known files (input ∷ inputs) cause (inl h) = cause_known files input cause h
first_known files (input ∷ inputs) cause (inr h) = first_known files inputs cause h.1

-- so does one of which an input is known to be accepted
pub accepted_known : (files : Option Files) (before : List Input) (input : Input) (after : List Input)
    → AreAccepted files (before ++ (input ∷ after)) → IsSome files
accepted_known files [] input after a = there_known files (name_of input) a.0.1.bytes a.0.1.there
accepted_known files (first ∷ before) input after a = accepted_known files before input after a.1
