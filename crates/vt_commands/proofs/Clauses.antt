-- The clauses of the top call, from how a run ends.
use Rattle.std.proofs.Common.{◌≡◌, ◌≢◌, ◌⊎◌, ℕ, ◌≤◌, List, Option, Ok, Err, refl, sym, ap, subst, ◌∙◌, inl, inr, arith}
use Rattle.std.specs.Prelude.{Result, IsNone}
use Rattle.std.specs.Option.{is_some}
use Rattle.std.proofs.lemmas.Bool.{false≢true}
use Rattle.vt_command_inputs.specs.Effects.{CallEffect, SinkState, FolderState, SinkEffect, IsWithoutEffect, HasNoEffect}
use Rattle.vt_command_inputs.specs.Inputs.{Input, InputContent}
use Rattle.vt_command_inputs.specs.Causes.{Cause, MissingName, FlawedInput, cause_status, IsFirstCause, AreHeld, AreAccepted}
use Rattle.vt_command_inputs.specs.Tasks.{HasBadInput}
use Rattle.vt_command_inputs.specs.CommandSpecs.{CommandSpec, Conflict, FlawedBeside, ManyTexels, FewFrames, LargePicture, conflict_status, IsInConflict, HasFaultBy, HasBadInputBy, EndsBy}
use Rattle.vt_command_inputs.specs.Lines.{memory_line, fault_line}
use Rattle.vt_command_inputs.specs.Refusals.{status_of, refusal_status, refusal_line, Printed, EndPrinted, refusal_of_words}
use Rattle.vt_commands.specs.Runs.{Run, Asks, NamesNoCommand, RunDone, RunLeft, RunAsked, RunFault, RunBadInput, RunInConflict, RunCaused, RunStopped, RunComplete, IsRun}
use Rattle.vt_commands.specs.Words.{CommandText, command_text}
use Rattle.vt_command_words.specs.declared.arguments.WordsError.{WordsError}
use Rattle.vt_command_words.specs.declared.arguments.WordsError.TheVariants as words_error
use Rattle.vt_walk_commands.specs.StoreCommandsCommands.{usage_line}
use Rattle.vt_walk_commands.specs.Machines.{Machines}
use Rattle.vt_commands.specs.commands.{spec_of, IsUnread, EndsCommand, EndsRun}
use Rattle.vt_command_inputs.specs.declared.flaws.Flaw.{Flaw}
use Rattle.vt_command_inputs.specs.declared.refusal.Refusal.{Refusal}
use Rattle.vt_command_inputs.specs.declared.refusal.Refusal.TheVariants.{NoMemory, Usage, Fault, Flawed, TooFewFrames, DoesNotFit}
use Rattle.vt_command_inputs.proofs.Excluded.{first_status, none_first, held_accepted, first_known, accepted_known}
use Rattle.vt_command_inputs.proofs.OneContent.{same_held}
use Rattle.vt_walk_commands.proofs.Sound.{AreSound}
use Rattle.vt_commands.proofs.Sound.{sound}

asks_none : (words : List (List ℕ)) (p : CommandText) → Asks words p → NamesNoCommand words → ⊥
asks_none words p asks none = false≢true (sym none ∙ ap is_some asks)

same_command : (words : List (List ℕ)) (p q : CommandText) → Asks words p → Asks words q → p ≡ q
same_command words p q a b = cc

-- how the words' command ended, whichever name it is given
ends_as : (m : Machines) (T : Type 0) (words : List (List ℕ)) (c : CallEffect) (r : Result T Refusal) (p : CommandText) → Asks words p
    → EndsCommand m words c r → EndsBy (spec_of m p) c r
ends_as m T words c r p asks h = subst (λ (q : CommandText). EndsBy (spec_of m q) c r) (same_command words h.command p h.is asks) h.ends

done_of : (run : Run) (T : Type 0) (r : Result T Refusal) → EndsRun run.machines run.words run.call_effect r → status_of r ≡ 0 → RunDone run
done_of run T (Ok t) h s = (h.command, h.is, h.ends.1)
done_of run T (Err NoMemory) h s = absurd (omega (arith, s))
done_of run T (Err Usage) h s = absurd (omega (arith, s))
done_of run T (Err Fault) h s = absurd (omega (arith, s))
done_of run T (Err (Flawed name flaw)) h s = absurd (omega (arith, s))
done_of run T (Err (TooFewFrames frames needed)) h s = absurd (omega (arith, s))
done_of run T (Err (DoesNotFit picture wanted room)) h s = absurd (omega (arith, s))

idle_untouched : (c : CallEffect) → HasNoEffect c → IsWithoutEffect c
idle_untouched c idle = record { files = ap (λ (s : FolderState). s.files) idle.folder; held = ap (λ (s : SinkState). s.held) idle.out }

left_of : (run : Run) (T : Type 0) (r : Result T Refusal) → EndsRun run.machines run.words run.call_effect r → status_of r ≢ 0 → RunLeft run
left_of run T (Ok t) h s = λ p asks. absurd (s refl)
left_of run T (Err refusal) (inl h) s = λ p asks. inl (idle_untouched run.call_effect h.idle)
left_of run T (Err refusal) (inr h) s = λ p asks. (ends_as run.machines T run.words run.call_effect (Err refusal) p asks h).1.0

bad_untouched : (spec : CommandSpec) (c : CallEffect) (name : List ℕ) (flaw : Flaw) → HasBadInputBy spec c name flaw → IsWithoutEffect c
bad_untouched spec c name flaw (inl h) = h.untouched
bad_untouched spec c name flaw (inr h) = h.stands

untouched_of : (m : Machines) (T : Type 0) (words : List (List ℕ)) (c : CallEffect) (r : Result T Refusal) → EndsRun m words c r
    → (status_of r ≡ 2) ⊎ (status_of r ≡ 4) → IsWithoutEffect c
untouched_of m T words c (Ok t) h (inl s) = absurd (omega (arith, s))
untouched_of m T words c (Ok t) h (inr s) = absurd (omega (arith, s))
untouched_of m T words c (Err refusal) (inl h) s = idle_untouched c h.idle
untouched_of m T words c (Err NoMemory) (inr h) (inl s) = absurd (omega (arith, s))
untouched_of m T words c (Err NoMemory) (inr h) (inr s) = absurd (omega (arith, s))
untouched_of m T words c (Err Usage) (inr h) s = h.ends.1.1.stands
untouched_of m T words c (Err Fault) (inr h) (inl s) = absurd (omega (arith, s))
untouched_of m T words c (Err Fault) (inr h) (inr s) = absurd (omega (arith, s))
untouched_of m T words c (Err (Flawed name flaw)) (inr h) s = bad_untouched (spec_of m h.command) c name.now flaw h.ends.1.1
untouched_of m T words c (Err (TooFewFrames frames needed)) (inr h) s = h.ends.1.1.stands
untouched_of m T words c (Err (DoesNotFit picture wanted room)) (inr h) (inl s) = absurd (omega (arith, s))
untouched_of m T words c (Err (DoesNotFit picture wanted room)) (inr h) (inr s) = absurd (omega (arith, s))

asked_of : (run : Run) (T : Type 0) (r : Result T Refusal) → EndsRun run.machines run.words run.call_effect r → RunAsked run
asked_of run T (Ok t) h = λ p asks. (ends_as run.machines T run.words run.call_effect (Ok t) p asks h).0
asked_of run T (Err refusal) (inl h) = λ p asks. (sound run.machines p).idle run.call_effect h.idle
asked_of run T (Err refusal) (inr h) = λ p asks. (ends_as run.machines T run.words run.call_effect (Err refusal) p asks h).0

idle_of : (m : Machines) (T : Type 0) (words : List (List ℕ)) (c : CallEffect) (r : Result T Refusal) → EndsRun m words c r → NamesNoCommand words → HasNoEffect c
idle_of m T words c (Ok t) h none = absurd (asks_none words h.command h.is none)
idle_of m T words c (Err refusal) (inl h) none = h.idle
idle_of m T words c (Err refusal) (inr h) none = absurd (asks_none words h.command h.is none)

usage_of : (run : Run) (T : Type 0) (r : Result T Refusal) → EndsRun run.machines run.words run.call_effect r → EndPrinted usage_line r run.err
    → status_of r ≡ 2 → NamesNoCommand run.words ⊎ RunInConflict run 2
usage_of run T (Ok t) h printed s = absurd (omega (arith, s))
usage_of run T (Err NoMemory) h printed s = absurd (omega (arith, s))
usage_of run T (Err Usage) (inl h) printed s = inl h.unread
usage_of run T (Err Usage) (inr h) printed s =
    inr (record { command = h.command; asks = h.is; conflict = ManyTexels; comes = refl; met = h.ends.1.1; printed = printed })
usage_of run T (Err Fault) h printed s = absurd (omega (arith, s))
usage_of run T (Err (Flawed name flaw)) h printed s = absurd (omega (arith, s))
usage_of run T (Err (TooFewFrames frames needed)) h printed s = absurd (omega (arith, s))
usage_of run T (Err (DoesNotFit picture wanted room)) h printed s = absurd (omega (arith, s))

no_command_of : (m : Machines) (T : Type 0) (words : List (List ℕ)) (c : CallEffect) (r : Result T Refusal) → EndsRun m words c r
    → NamesNoCommand words → (status_of r ≡ 2) ⊎ (status_of r ≡ 1)
no_command_of m T words c (Ok t) h none = absurd (asks_none words h.command h.is none)
no_command_of m T words c (Err NoMemory) h none = inr refl
no_command_of m T words c (Err Usage) h none = inl refl
no_command_of m T words c (Err refusal) (inr h) none = absurd (asks_none words h.command h.is none)
no_command_of m T words c (Err Fault) (inl h) none = absurd h.unread
no_command_of m T words c (Err (Flawed name flaw)) (inl h) none = absurd h.unread
no_command_of m T words c (Err (TooFewFrames frames needed)) (inl h) none = absurd h.unread
no_command_of m T words c (Err (DoesNotFit picture wanted room)) (inl h) none = absurd h.unread

fault_of : (run : Run) (T : Type 0) (r : Result T Refusal) → EndsRun run.machines run.words run.call_effect r → status_of r ≡ 3
    → RunFault run
fault_of run T (Ok t) h s = absurd (omega (arith, s))
fault_of run T (Err NoMemory) h s = absurd (omega (arith, s))
fault_of run T (Err Usage) h s = absurd (omega (arith, s))
fault_of run T (Err Fault) (inl h) s = absurd h.unread
fault_of run T (Err Fault) (inr h) s = (h.command, h.is, h.ends.1.1)
fault_of run T (Err (Flawed name flaw)) h s = absurd (omega (arith, s))
fault_of run T (Err (TooFewFrames frames needed)) h s = absurd (omega (arith, s))
fault_of run T (Err (DoesNotFit picture wanted room)) h s = absurd (omega (arith, s))

-- what holds of the inputs of a conflict has no first cause
in_conflict_first : (spec : CommandSpec) (c : CallEffect) (cause : Cause) (conflict : Conflict) → IsFirstCause c.folder.before.files spec.inputs cause
    → IsInConflict spec c conflict → ⊥
in_conflict_first spec c cause conflict first h =
    let files = c.folder.before.files in
    none_first files spec.inputs cause (held_accepted files spec.inputs h.contents (h.held (first_known files spec.inputs cause first))) first

bad_status : (spec : CommandSpec) (c : CallEffect) (name : List ℕ) (flaw : Flaw) (cause : Cause) → IsFirstCause c.folder.before.files spec.inputs cause
    → HasBadInputBy spec c name flaw → 4 ≡ cause_status cause
bad_status spec c name flaw cause first (inl h) =
    first_status c.folder.before.files spec.inputs (FlawedInput name flaw) cause (h.first (first_known c.folder.before.files spec.inputs cause first)) first
bad_status spec c name flaw cause first (inr h) = absurd (in_conflict_first spec c cause (FlawedBeside name flaw) first h)

fault_status : (spec : CommandSpec) (c : CallEffect) (cause : Cause) → (spec.failed c → ⊥) → IsFirstCause c.folder.before.files spec.inputs cause
    → HasFaultBy spec c → 3 ≡ cause_status cause
fault_status spec c cause none first (inl failed) = absurd (none failed)
fault_status spec c cause none first (inr missing) =
    first_status c.folder.before.files spec.inputs (MissingName missing.0) cause missing.1 first

caused_as : (T : Type 0) (c : CallEffect) (r : Result T Refusal) (spec : CommandSpec) (cause : Cause) → EndsBy spec c r → (spec.failed c → ⊥)
    → IsFirstCause c.folder.before.files spec.inputs cause → (status_of r ≡ cause_status cause) ⊎ (status_of r ≡ 1)
caused_as T c (Ok t) spec cause h none first =
    let files = c.folder.before.files in
    absurd (none_first files spec.inputs cause (held_accepted files spec.inputs h.1.contents (h.1.held (first_known files spec.inputs cause first))) first)
caused_as T c (Err NoMemory) spec cause h none first = inr refl
caused_as T c (Err Usage) spec cause h none first = absurd (in_conflict_first spec c cause ManyTexels first h.1.1)
caused_as T c (Err Fault) spec cause h none first = inl (fault_status spec c cause none first h.1.1)
caused_as T c (Err (Flawed name flaw)) spec cause h none first = inl (bad_status spec c name.now flaw cause first h.1.1)
caused_as T c (Err (TooFewFrames frames needed)) spec cause h none first =
    absurd (in_conflict_first spec c cause (FewFrames frames needed) first h.1.1)
caused_as T c (Err (DoesNotFit picture wanted room)) spec cause h none first =
    absurd (in_conflict_first spec c cause (LargePicture picture wanted room) first h.1.1)

unread_caused : (m : Machines) (T : Type 0) (words : List (List ℕ)) (c : CallEffect) (refusal : Refusal) → EndsRun {T = T} m words c (Err refusal)
    → (p : CommandText) → Asks words p → (status_of {T = T} (Err refusal) ≡ 1) ⊎ EndsBy {T = T} (spec_of m p) c (Err refusal)
unread_caused m T words c refusal (inr h) = λ p asks. inr (ends_as m T words c (Err refusal) p asks h)
unread_caused m T words c NoMemory (inl h) = λ p asks. inl refl
unread_caused m T words c Usage (inl h) = λ p asks. absurd (asks_none words p asks h.unread)
unread_caused m T words c Fault (inl h) = λ p asks. absurd h.unread
unread_caused m T words c (Flawed name flaw) (inl h) = λ p asks. absurd h.unread
unread_caused m T words c (TooFewFrames frames needed) (inl h) = λ p asks. absurd h.unread
unread_caused m T words c (DoesNotFit picture wanted room) (inl h) = λ p asks. absurd h.unread

-- an ending of the words' command, or want of memory
came_to : (m : Machines) (T : Type 0) (words : List (List ℕ)) (c : CallEffect) (r : Result T Refusal) → EndsRun m words c r
    → (p : CommandText) → Asks words p → (status_of r ≡ 1) ⊎ EndsBy (spec_of m p) c r
came_to m T words c (Ok t) h = λ p asks. inr (ends_as m T words c (Ok t) p asks h)
came_to m T words c (Err refusal) h = unread_caused m T words c refusal h

caused_of : (run : Run) (T : Type 0) (r : Result T Refusal) → EndsRun run.machines run.words run.call_effect r → RunCaused run (status_of r)
caused_of run T r h = λ p cause asks none first. elim (came_to run.machines T run.words run.call_effect r h p asks) [
  | inl wanting ↦ inr wanting
  | inr ends ↦ caused_as T run.call_effect r (spec_of run.machines p) cause ends none first
]

-- what stands in a command's way is what stands in the way of what the folder holds
in_conflict_status : (spec : CommandSpec) (c : CallEffect) (contents : List InputContent) (a b : Conflict) → AreSound spec
    → AreHeld c.folder.before.files spec.inputs contents → spec.conflicts contents a → IsInConflict spec c b → conflict_status b ≡ conflict_status a
in_conflict_status spec c contents a b laws held conflicts h =
    let same = same_held c.folder.before.files spec.inputs contents h.contents held h.count h.held in
    laws.one h.contents b a h.conflicts (subst (λ (cs : List InputContent). spec.conflicts cs a) same conflicts)

fault_held : (spec : CommandSpec) (c : CallEffect) (contents : List InputContent) → (spec.failed c → ⊥) → AreHeld c.folder.before.files spec.inputs contents
    → HasFaultBy spec c → ⊥
fault_held spec c contents none held (inl failed) = none failed
fault_held spec c contents none held (inr missing) =
    none_first c.folder.before.files spec.inputs (MissingName missing.0) (held_accepted c.folder.before.files spec.inputs contents held) missing.1

bad_held : (inputs : List Input) (c : CallEffect) (contents : List InputContent) (name : List ℕ) (flaw : Flaw) → AreHeld c.folder.before.files inputs contents
    → HasBadInput inputs c name flaw → ⊥
bad_held inputs c contents name flaw held bad =
    let files = c.folder.before.files in
    let accepted = held_accepted files inputs contents held in
    let known = accepted_known files bad.before bad.input bad.after (subst (λ (all : List Input). AreAccepted files all) bad.among accepted) in
    none_first files inputs (FlawedInput name flaw) accepted (bad.first known)

stopped_as : (T : Type 0) (c : CallEffect) (r : Result T Refusal) (spec : CommandSpec) (contents : List InputContent) (a : Conflict) → AreSound spec → EndsBy spec c r
    → (spec.failed c → ⊥) → AreHeld c.folder.before.files spec.inputs contents → spec.conflicts contents a
    → (status_of r ≡ conflict_status a) ⊎ (status_of r ≡ 1)
stopped_as T c (Ok t) spec contents a laws h none held conflicts =
    let same = same_held c.folder.before.files spec.inputs contents h.1.contents held h.1.count h.1.held in
    absurd (h.1.free a (subst (λ (cs : List InputContent). spec.conflicts cs a) same conflicts))
stopped_as T c (Err NoMemory) spec contents a laws h none held conflicts = inr refl
stopped_as T c (Err Usage) spec contents a laws h none held conflicts = inl (in_conflict_status spec c contents a ManyTexels laws held conflicts h.1.1)
stopped_as T c (Err Fault) spec contents a laws h none held conflicts = absurd (fault_held spec c contents none held h.1.1)
stopped_as T c (Err (Flawed name flaw)) spec contents a laws h none held conflicts = elim h.1.1 [
  | inl bad ↦ absurd (bad_held spec.inputs c contents name.now flaw held bad)
  | inr met ↦ inl (in_conflict_status spec c contents a (FlawedBeside name.now flaw) laws held conflicts met)
]
stopped_as T c (Err (TooFewFrames frames needed)) spec contents a laws h none held conflicts =
    inl (in_conflict_status spec c contents a (FewFrames frames needed) laws held conflicts h.1.1)
stopped_as T c (Err (DoesNotFit picture wanted room)) spec contents a laws h none held conflicts =
    inl (in_conflict_status spec c contents a (LargePicture picture wanted room) laws held conflicts h.1.1)

stopped_of : (run : Run) (T : Type 0) (r : Result T Refusal) → EndsRun run.machines run.words run.call_effect r
    → RunStopped run (status_of r)
stopped_of run T r h = λ p contents conflict asks none held conflicts. elim (came_to run.machines T run.words run.call_effect r h p asks) [
  | inl wanting ↦ inr wanting
  | inr ends ↦ stopped_as T run.call_effect r (spec_of run.machines p) contents conflict (sound run.machines p) ends none held conflicts
]

-- nothing stands in the way of what the folder holds, and so in the command's way
none_met : (spec : CommandSpec) (c : CallEffect) (contents : List InputContent) (b : Conflict) → AreHeld c.folder.before.files spec.inputs contents
    → ((a : Conflict) → spec.conflicts contents a → ⊥) → IsInConflict spec c b → ⊥
none_met spec c contents b held free h =
    let same = same_held c.folder.before.files spec.inputs contents h.contents held h.count h.held in
    free b (subst (λ (cs : List InputContent). spec.conflicts cs b) (sym same) h.conflicts)

complete_as : (T : Type 0) (c : CallEffect) (r : Result T Refusal) (spec : CommandSpec) (contents : List InputContent) → EndsBy spec c r
    → (spec.failed c → ⊥) → AreHeld c.folder.before.files spec.inputs contents → ((a : Conflict) → spec.conflicts contents a → ⊥)
    → (status_of r ≡ 0) ⊎ (status_of r ≡ 1)
complete_as T c (Ok t) spec contents h none held free = inl refl
complete_as T c (Err NoMemory) spec contents h none held free = inr refl
complete_as T c (Err Usage) spec contents h none held free = absurd (none_met spec c contents ManyTexels held free h.1.1)
complete_as T c (Err Fault) spec contents h none held free = absurd (fault_held spec c contents none held h.1.1)
complete_as T c (Err (Flawed name flaw)) spec contents h none held free = elim h.1.1 [
  | inl bad ↦ absurd (bad_held spec.inputs c contents name.now flaw held bad)
  | inr met ↦ absurd (none_met spec c contents (FlawedBeside name.now flaw) held free met)
]
complete_as T c (Err (TooFewFrames frames needed)) spec contents h none held free =
    absurd (none_met spec c contents (FewFrames frames needed) held free h.1.1)
complete_as T c (Err (DoesNotFit picture wanted room)) spec contents h none held free =
    absurd (none_met spec c contents (LargePicture picture wanted room) held free h.1.1)

complete_of : (run : Run) (T : Type 0) (r : Result T Refusal) → EndsRun run.machines run.words run.call_effect r
    → RunComplete run (status_of r)
complete_of run T r h = λ p contents asks none held free. elim (came_to run.machines T run.words run.call_effect r h p asks) [
  | inl wanting ↦ inr wanting
  | inr ends ↦ complete_as T run.call_effect r (spec_of run.machines p) contents ends none held free
]

unread_by : (asked : Option CommandText) (e : WordsError) → (e ≡ words_error.Usage → IsNone asked) → IsUnread asked (refusal_of_words e)
unread_by asked words_error.Usage none = none refl
unread_by asked words_error.NoMemory none = tt

-- a run whose words were refused
pub runs_unread : (m : Machines) (T : Type 0) (words : List (List ℕ)) (c : CallEffect) (e : WordsError) → HasNoEffect c
    → (e ≡ words_error.Usage → IsNone (command_text words)) → EndsRun {T = T} m words c (Err (refusal_of_words e))
runs_unread m T words c e idle none = inl (record { unread = unread_by (command_text words) e none; idle = idle })

-- a run that did a command
pub runs_command : (m : Machines) (T : Type 0) (words : List (List ℕ)) (c : CallEffect) (r : Result T Refusal) (command : CommandText)
    → Asks words command → EndsBy (spec_of m command) c r → EndsRun m words c r
runs_command m T words c (Ok t) command is ends = record { command = command; is = is; ends = ends }
runs_command m T words c (Err refusal) command is ends = inr (record { command = command; is = is; ends = ends })

small_of : (T : Type 0) (r : Result T Refusal) → status_of r ≤ 5
small_of T (Ok t) = omega arith
small_of T (Err NoMemory) = omega arith
small_of T (Err Usage) = omega arith
small_of T (Err Fault) = omega arith
small_of T (Err (Flawed name flaw)) = omega arith
small_of T (Err (TooFewFrames frames needed)) = omega arith
small_of T (Err (DoesNotFit picture wanted room)) = omega arith

bad_input_of : (run : Run) (T : Type 0) (r : Result T Refusal) → EndsRun run.machines run.words run.call_effect r
    → EndPrinted usage_line r run.err → status_of r ≡ 4
    → RunBadInput run
bad_input_of run T (Ok t) h printed s = absurd (omega (arith, s))
bad_input_of run T (Err NoMemory) h printed s = absurd (omega (arith, s))
bad_input_of run T (Err Usage) h printed s = absurd (omega (arith, s))
bad_input_of run T (Err Fault) h printed s = absurd (omega (arith, s))
bad_input_of run T (Err (TooFewFrames frames needed)) h printed s = absurd (omega (arith, s))
bad_input_of run T (Err (DoesNotFit picture wanted room)) h printed s = absurd (omega (arith, s))
bad_input_of run T (Err (Flawed name flaw)) (inl h) printed s = absurd h.unread
bad_input_of run T (Err (Flawed name flaw))
    (inr h) printed s = record { command = h.command; asks = h.is; name = name.now; flaw = flaw; bad = h.ends.1.1; printed = printed }

silent_of : (T : Type 0) (r : Result T Refusal) (err : SinkEffect) → EndPrinted usage_line r err → status_of r ≡ 0 → err.after.held ≡ err.before.held
silent_of T (Ok t) err printed s = ap (λ (s : SinkState). s.held) printed
silent_of T (Err NoMemory) err printed s = absurd (omega (arith, s))
silent_of T (Err Usage) err printed s = absurd (omega (arith, s))
silent_of T (Err Fault) err printed s = absurd (omega (arith, s))
silent_of T (Err (Flawed name flaw)) err printed s = absurd (omega (arith, s))
silent_of T (Err (TooFewFrames frames needed)) err printed s = absurd (omega (arith, s))
silent_of T (Err (DoesNotFit picture wanted room)) err printed s = absurd (omega (arith, s))

memory_printed_of : (T : Type 0) (r : Result T Refusal) (err : SinkEffect) → EndPrinted usage_line r err → status_of r ≡ 1 → Printed memory_line err
memory_printed_of T (Ok t) err printed s = absurd (omega (arith, s))
memory_printed_of T (Err NoMemory) err printed s = printed
memory_printed_of T (Err Usage) err printed s = absurd (omega (arith, s))
memory_printed_of T (Err Fault) err printed s = absurd (omega (arith, s))
memory_printed_of T (Err (Flawed name flaw)) err printed s = absurd (omega (arith, s))
memory_printed_of T (Err (TooFewFrames frames needed)) err printed s = absurd (omega (arith, s))
memory_printed_of T (Err (DoesNotFit picture wanted room)) err printed s = absurd (omega (arith, s))

usage_printed_of : (T : Type 0) (r : Result T Refusal) (err : SinkEffect) → EndPrinted usage_line r err → status_of r ≡ 2 → Printed usage_line err
usage_printed_of T (Ok t) err printed s = absurd (omega (arith, s))
usage_printed_of T (Err NoMemory) err printed s = absurd (omega (arith, s))
usage_printed_of T (Err Usage) err printed s = printed
usage_printed_of T (Err Fault) err printed s = absurd (omega (arith, s))
usage_printed_of T (Err (Flawed name flaw)) err printed s = absurd (omega (arith, s))
usage_printed_of T (Err (TooFewFrames frames needed)) err printed s = absurd (omega (arith, s))
usage_printed_of T (Err (DoesNotFit picture wanted room)) err printed s = absurd (omega (arith, s))

fault_printed_of : (T : Type 0) (r : Result T Refusal) (err : SinkEffect) → EndPrinted usage_line r err → status_of r ≡ 3 → Printed fault_line err
fault_printed_of T (Ok t) err printed s = absurd (omega (arith, s))
fault_printed_of T (Err NoMemory) err printed s = absurd (omega (arith, s))
fault_printed_of T (Err Usage) err printed s = absurd (omega (arith, s))
fault_printed_of T (Err Fault) err printed s = printed
fault_printed_of T (Err (Flawed name flaw)) err printed s = absurd (omega (arith, s))
fault_printed_of T (Err (TooFewFrames frames needed)) err printed s = absurd (omega (arith, s))
fault_printed_of T (Err (DoesNotFit picture wanted room)) err printed s = absurd (omega (arith, s))

in_conflict_of : (run : Run) (T : Type 0) (r : Result T Refusal) → EndsRun run.machines run.words run.call_effect r → EndPrinted usage_line r run.err
    → status_of r ≡ 5 → RunInConflict run 5
in_conflict_of run T (Ok t) h printed s = absurd (omega (arith, s))
in_conflict_of run T (Err NoMemory) h printed s = absurd (omega (arith, s))
in_conflict_of run T (Err Usage) h printed s = absurd (omega (arith, s))
in_conflict_of run T (Err Fault) h printed s = absurd (omega (arith, s))
in_conflict_of run T (Err (Flawed name flaw)) h printed s = absurd (omega (arith, s))
in_conflict_of run T (Err (TooFewFrames frames needed)) (inl h) printed s = absurd h.unread
in_conflict_of run T (Err (DoesNotFit picture wanted room)) (inl h) printed s = absurd h.unread
in_conflict_of run T (Err (TooFewFrames frames needed)) (inr h) printed s =
    record { command = h.command; asks = h.is; conflict = FewFrames frames needed; comes = refl; met = h.ends.1.1; printed = printed }
in_conflict_of run T (Err (DoesNotFit picture wanted room)) (inr h) printed s =
    record { command = h.command; asks = h.is; conflict = LargePicture picture wanted room; comes = refl; met = h.ends.1.1; printed = printed }

-- all clauses
pub is_run : (run : Run) (T : Type 0) (r : Result T Refusal) → EndsRun run.machines run.words run.call_effect r → EndPrinted usage_line r run.err → IsRun run (status_of r)
is_run run T r h printed = record {
  statuses = small_of T r;
  done = done_of run T r h;
  left = left_of run T r h;
  untouched = untouched_of run.machines T run.words run.call_effect r h;
  asked = asked_of run T r h;
  idle = idle_of run.machines T run.words run.call_effect r h;
  usage = usage_of run T r h printed;
  no_command = no_command_of run.machines T run.words run.call_effect r h;
  fault = fault_of run T r h;
  bad_input = bad_input_of run T r h printed;
  in_conflict = in_conflict_of run T r h printed;
  caused = caused_of run T r h;
  stopped = stopped_of run T r h;
  complete = complete_of run T r h;
  silent = silent_of T r run.err printed;
  memory_printed = memory_printed_of T r run.err printed;
  usage_printed = usage_printed_of T r run.err printed;
  fault_printed = fault_printed_of T r run.err printed;
}

-- a run whose words were refused at once
pub run_unread : (run : Run) (status : ℕ) (e : WordsError) → HasNoEffect run.call_effect → (e ≡ words_error.Usage → IsNone (command_text run.words))
    → status ≡ refusal_status (refusal_of_words e) → Printed (refusal_line usage_line (refusal_of_words e)) run.err → IsRun run status
run_unread run status e idle none is printed =
    subst (IsRun run) (sym is)
    (is_run run (Unit {0}) (Err (refusal_of_words e)) (runs_unread run.machines (Unit {0}) run.words run.call_effect e idle none) printed)
