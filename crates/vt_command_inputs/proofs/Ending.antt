-- How a command ends, from what its readers answered and what it left.
use Rattle.std.proofs.Common.{
  ◌≡◌,
  ◌⊎◌,
  ◌≤◌,
  ◌+◌,
  List,
  [],
  ◌∷◌,
  ◌++◌,
  length,
  Option,
  Some,
  Ok,
  Err,
  refl,
  sym,
  ap,
  subst,
  ◌∙◌,
  inl,
  inr,
  append_assoc,
  length-append,
  arith,
}
use Rattle.std.specs.Option.{option_map, IsSome}
use Rattle.std.proofs.lemmas.List.{append-nil}
use Rattle.vt_outside.specs.Counts.{Rose}
use Rattle.vt_outside.specs.Files.{Files, Asked, bytes_at, with_places}
use Rattle.vt_outside.specs.declared.place.Place.{Place}
use Rattle.vt_outside.specs.declared.answers.OutsideError.{OutsideError}
use Rattle.vt_outside.specs.declared.answers.OutsideError.TheVariants as outside
use Rattle.vt_outside.proofs.Refusing.{rose_later}
use Rattle.vt_outside.specs.Effects.{FolderState, SinkState}
use Rattle.vt_command_inputs.specs.Inputs.{Input, InputContent, name_of, MayAsk}
use Rattle.vt_command_inputs.specs.HeldInputs.{Holds, HasFlaw, IsMissing}
use Rattle.vt_command_inputs.specs.Causes.{Cause, MissingName, FlawedInput, HasCause, AreHeld, IsFirstCause, AreAsked, AsksInOrder}
use Rattle.vt_command_inputs.specs.Reads.{TookInput, Refused, IsInputAsked, IsRefusalCausedBy}
use Rattle.vt_outside.specs.Expectations.{Expected, IsPart, Stopped, FailsOnly, Leaves, with_files}
use Rattle.vt_command_inputs.specs.Tasks.{Task, IsRefusal}
use Rattle.vt_command_inputs.specs.CommandSpecs.{task_spec, EndsAs}
use Rattle.vt_command_inputs.specs.Refusals.{cause_of}
use Rattle.vt_command_inputs.proofs.TaskSpecs.{refused_by}
use Rattle.vt_command_inputs.specs.declared.refusal.Refusal.{Refusal}
use Rattle.vt_command_inputs.specs.declared.refusal.Refusal.TheVariants.{NoMemory, Usage, Fault, Flawed, TooFewFrames, DoesNotFit}

-- these inputs were read and hold these contents
pub record HasRead (inputs : List Input) (contents : List InputContent) (before after : FolderState) : Type 0 where
  pub count : length contents ≡ length inputs
  pub held : IsSome before.files → AreHeld before.files inputs contents
  pub files : after.files ≡ before.files
  pub asked : AreAsked before.files inputs before.asked after.asked
  pub faults : before.faults ≤ after.faults

pub read_none : (s : FolderState) → HasRead [] [] s s
read_none s = record { count = refl; held = λ known. tt; files = refl; asked = refl; faults = omega arith }

held_more : (files : Option Files) (inputs : List Input) (contents : List InputContent) (input : Input) (content : InputContent)
    → AreHeld files inputs contents → Holds files input content → AreHeld files (inputs ++ (input ∷ [])) (contents ++ (content ∷ []))
held_more files [] [] input content h more = (more, tt)
held_more files [] (y ∷ ys) input content h more = absurd h
held_more files (x ∷ xs) [] input content h more = absurd h
held_more files (x ∷ xs) (y ∷ ys) input content h more = (h.0, held_more files xs ys input content h.1 more)

asked_more : (files : Option Files) (inputs : List Input) (input : Input) (a b c : Option Asked) (places : List Place)
    → AreAsked files inputs a b → MayAsk input (bytes_at files (name_of input)) places → c ≡ option_map (with_places (name_of input) (Some places)) b
    → AreAsked files (inputs ++ (input ∷ [])) a c
asked_more files [] input a b c places h may is = (places, may, is ∙ ap (option_map (with_places (name_of input) (Some places))) h)
asked_more files (x ∷ xs) input a b c places h may is = (
  h.0,
  h.1,
  asked_more files xs input (option_map (with_places (name_of x) (Some h.0)) a) b c places h.2 may is,
)

asked_next : (inputs : List Input) (input : Input) (before mid after : FolderState)
    → AreAsked before.files inputs before.asked mid.asked → mid.files ≡ before.files → IsInputAsked input (record { before = mid; after = after })
    → AreAsked before.files (inputs ++ (input ∷ [])) before.asked after.asked
asked_next inputs input before mid after h same more =
    asked_more before.files inputs input before.asked mid.asked after.asked more.0 h
    (subst (λ (files : Option Files). MayAsk input (bytes_at files (name_of input)) more.0) same more.1) more.2

-- one more input was read
pub read_more : (inputs : List Input) (contents : List InputContent) (input : Input) (content : InputContent) (before mid after : FolderState)
    → HasRead inputs contents before mid → TookInput input content (record { before = mid; after = after })
    → HasRead (inputs ++ (input ∷ [])) (contents ++ (content ∷ [])) before after
read_more inputs contents input content before mid after h more = record {
  count = let so_far : length contents ≡ length inputs = h.count in
      let all : length (contents ++ (content ∷ [])) ≡ length contents + 1 = length-append contents (content ∷ []) in
      let inputs_all : length (inputs ++ (input ∷ [])) ≡ length inputs + 1 = length-append inputs (input ∷ []) in omega (arith, so_far, all, inputs_all);
  held = λ known. held_more before.files inputs contents input content (h.held known)
      (subst (λ (files : Option Files). Holds files input content) h.files (more.held (subst IsSome (sym h.files) known)));
  files = more.files ∙ h.files;
  asked = asked_next inputs input before mid after h.asked h.files more.asked;
  faults = let le : before.faults ≤ mid.faults = h.faults in let more_le : mid.faults ≤ after.faults = more.faults in omega arith;
}

first_at : (files : Option Files) (inputs : List Input) (contents : List InputContent) (input : Input) (rest : List Input) (cause : Cause)
    → AreHeld files inputs contents → HasCause files input cause → IsFirstCause files (inputs ++ (input ∷ rest)) cause
first_at files [] [] input rest cause h is = inl is
first_at files [] (y ∷ ys) input rest cause h is = absurd h
first_at files (x ∷ xs) [] input rest cause h is = absurd h
first_at files (x ∷ xs) (y ∷ ys) input rest cause h is = inr ((y, h.0), first_at files xs ys input rest cause h.1 is)

asks_refused : (task : Task) (inputs : List Input) (input : Input) (rest : List Input) (refusal : Refusal) (before mid after : FolderState)
    → task.inputs ≡ inputs ++ (input ∷ rest) → AreAsked before.files inputs before.asked mid.asked → mid.files ≡ before.files
    → Refused input refusal (record { before = mid; after = after })
    → AsksInOrder task.inputs (record { before = before; after = after })
asks_refused task inputs input rest refusal before mid after split h same refused = elim refused.asked [
  | inl none ↦ record {
    some = inputs;
    rest = input ∷ rest;
    split = split;
    asked = subst (λ (asked : Option Asked). AreAsked before.files inputs before.asked asked) (sym none) h;
  }
  | inr more ↦ record {
    some = inputs ++ (input ∷ []);
    rest = rest;
    split = split ∙ sym (append_assoc inputs (input ∷ []) rest);
    asked = asked_next inputs input before mid after h same more;
  }
]

-- an input is refused after others that are accepted
pub refusal_at : (all inputs : List Input) (contents : List InputContent) (input : Input) (rest : List Input) (refusal : Refusal)
    (before mid after : FolderState) (out : SinkState)
    → all ≡ inputs ++ (input ∷ rest) → (IsSome before.files → AreHeld before.files inputs contents) → mid.files ≡ before.files
    → before.faults ≤ mid.faults → after.files ≡ mid.files → IsRefusalCausedBy input (record { before = mid; after = after }) refusal
    → IsRefusal all (record { folder = record { before = before; after = after }; out = record { before = out; after = out } }) refusal
refusal_at all inputs contents input rest NoMemory before mid after out split held kept le same why = tt
refusal_at all inputs contents input rest Usage before mid after out split held kept le same why = why
refusal_at all inputs contents input rest (TooFewFrames frames needed) before mid after out split held kept le same why = why
refusal_at all inputs contents input rest (DoesNotFit picture wanted room) before mid after out split held kept le same why = why
refusal_at all inputs contents input rest Fault before mid after out split held kept le same why = elim why [
  | inl rose ↦ inl (inl (rose_later before.faults mid.faults after.faults le rose))
  | inr missing ↦ inr (
    name_of input,
    let there : IsMissing before.files input = subst (λ (files : Option Files). IsMissing files input) kept missing in
        subst (λ (inputs : List Input). IsFirstCause before.files inputs (MissingName (name_of input))) (sym split)
        (first_at before.files inputs contents input rest (MissingName (name_of input)) (held there.known) (refl, there)),
  )
]
refusal_at all inputs contents input rest (Flawed name flaw) before mid after out split held kept le same why = record {
  input = input;
  before = inputs;
  after = rest;
  among = split;
  name_is = why.0;
  fits = why.1;
  first = λ known.
      subst (λ (inputs : List Input). IsFirstCause before.files inputs (FlawedInput name.now flaw)) (sym split)
      (first_at before.files inputs contents input rest (FlawedInput name.now flaw) (held known)
      (why.0, subst (λ (files : Option Files). HasFlaw files input flaw) kept (why.2 (subst IsSome (sym kept) known))));
  untouched = record { files = same ∙ kept; held = refl };
}

-- an input was refused
pub ends_refused : (task : Task) (inputs : List Input) (contents : List InputContent) (input : Input) (rest : List Input) (refusal : Refusal)
    (before mid after : FolderState) (out : SinkState)
    → task.inputs ≡ inputs ++ (input ∷ rest) → HasRead inputs contents before mid
    → Refused input refusal (record { before = mid; after = after })
    → EndsAs {T = Unit {0}} task (record { folder = record { before = before; after = after }; out = record { before = out; after = out } }) (Err refusal)
ends_refused task inputs contents input rest refusal before mid after out split h refused = (
  asks_refused task inputs input rest refusal before mid after split h.asked h.files refused,
  (
    inl (record { files = refused.files ∙ h.files; held = refl }),
    refused_by (task_spec task) (record { folder = record { before = before; after = after }; out = record { before = out; after = out } }) refusal
        (λ rose. rose)
        (refusal_at task.inputs inputs contents input rest refusal before mid after out split h.held h.files h.faults refused.files refused.cause),
  ),
)

asks_all : (task : Task) (contents : List InputContent) (before mid after : FolderState) → HasRead task.inputs contents before mid → after.asked ≡ mid.asked
    → AsksInOrder task.inputs (record { before = before; after = after })
asks_all task contents before mid after h same = record {
  some = task.inputs;
  rest = [];
  split = sym (append-nil task.inputs);
  asked = subst (λ (asked : Option Asked). AreAsked before.files task.inputs before.asked asked) (sym same) h.asked;
}

-- the inputs were read, and what is expected was left
pub ends_done : (task : Task) (contents : List InputContent) (before mid after : FolderState) (out shown : SinkState)
    → HasRead task.inputs contents before mid
    → Leaves {T = Unit {0}} (task.expected contents)
    (record { folder = record { before = mid; after = after }; out = record { before = out; after = shown } }) (Ok tt)
    → EndsAs {T = Unit {0}} task (record { folder = record { before = before; after = after }; out = record { before = out; after = shown } }) (Ok tt)
ends_done task contents before mid after out shown h left = (
  asks_all task contents before mid after h left.0.asked,
  record {
    contents = contents;
    count = h.count;
    held = h.held;
    free = λ conflict x. x;
    done = record { files = left.1.files ∙ ap (option_map (with_files (task.expected contents).files)) h.files; out = left.1.out };
  },
)

stopped_from : (expected : Expected) (before mid after : FolderState) (out shown : SinkState) → mid.files ≡ before.files
    → Stopped expected (record { folder = record { before = mid; after = after }; out = record { before = out; after = shown } })
    → Stopped expected (record { folder = record { before = before; after = after }; out = record { before = out; after = shown } })
stopped_from expected before mid after out shown same h = record {
  files = subst (λ (files : Option Files). IsPart expected.files files after.files) same h.files;
  out = elim h.out [
    | inl none ↦ inl none
    | inr some ↦ inr (some.0 ∙ ap (option_map (with_files expected.files)) same, some.1, some.2)
  ];
}

cause_left : (task : Task) (before mid after : FolderState) (out shown : SinkState) (error : OutsideError) → before.faults ≤ mid.faults
    → FailsOnly (Rose mid.faults after.faults ⊎ Rose out.faults shown.faults) error
    → IsRefusal task.inputs (record { folder = record { before = before; after = after }; out = record { before = out; after = shown } }) (cause_of error)
cause_left task before mid after out shown outside.Failed le (inl rose) = inl (inl (rose_later before.faults mid.faults after.faults le rose))
cause_left task before mid after out shown outside.Failed le (inr rose) = inl (inr rose)
cause_left task before mid after out shown outside.NoMemory le why = tt

-- the inputs were read, and a part of what is expected was left
pub ends_stopped : (task : Task) (contents : List InputContent) (before mid after : FolderState) (out shown : SinkState) (error : OutsideError)
    → HasRead task.inputs contents before mid
    → Leaves {T = Unit {0}} (task.expected contents)
    (record { folder = record { before = mid; after = after }; out = record { before = out; after = shown } }) (Err error)
    → EndsAs {T = Unit {0}} task (record { folder = record { before = before; after = after }; out = record { before = out; after = shown } })
    (Err (cause_of error))
ends_stopped task contents before mid after out shown error h left = (
  asks_all task contents before mid after h left.0.asked,
  (
    inr (record {
      contents = contents;
      count = h.count;
      held = h.held;
      stopped = stopped_from (task.expected contents) before mid after out shown h.files left.1;
    }),
    refused_by (task_spec task) (record { folder = record { before = before; after = after }; out = record { before = out; after = shown } })
        (cause_of error) (λ rose. rose) (cause_left task before mid after out shown error h.faults left.2),
  ),
)
