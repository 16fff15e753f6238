-- Which words may wait, and that the clauses of a run that does not wait are the same by any machine.
use Rattle.std.proofs.Common.{◌≡◌, ◌≤◌, ◌⊎◌, ℕ, List, [], ◌∷◌, length, get_or, Option, Some, None, Bool, true, false, ◌||◌, refl, sym, ap, subst, ◌∙◌, inl, inr, arith}
use Rattle.std.specs.Prelude.{String, string_bytes, is_some, option_map, codes, if◌then◌else◌}
use Rattle.std.specs.Str.{bytes_eq}
use Rattle.std.specs.declared.alloc.Global.{Global}
use Rattle.std.proofs.lemmas.Bool.{false≢true}
use Rattle.std.proofs.lemmas.Slice.Eq.{bytes_eq-Decides}
use Rattle.vt_command_inputs.specs.Causes.{cause_status, IsFirstCause, AreHeld}
use Rattle.vt_command_inputs.specs.CommandSpecs.{CommandSpec, Conflict, conflict_status, DoneBy, LeftBySpec, IsInConflict, HasFaultBy, HasBadInputBy}
use Rattle.vt_command_words.specs.Arguments.{app, found, given, texts}
use Rattle.vt_command_words.specs.Replay.{replay_values}
use Rattle.vt_command_words.specs.Walk.{walk_rules, walk_values}
use Rattle.vt_command_words.specs.Trial.{trial_rules, trial_values}
use Rattle.vt_command_words.specs.Commands.{WalkingText, ReplayCommand, WalkCommand, TrialCommand, walking_kind_of, rules_of, values_for, walking_text}
use Rattle.vt_command_words.specs.declared.command.WalkingKind.{WalkingKind}
use Rattle.vt_command_words.specs.declared.command.WalkingKind.TheVariants as kind
use Rattle.clap.specs.Words.{Row}
use Rattle.vt_walk_commands.specs.StoreCommandsCommands.{store_text}
use Rattle.vt_commands.specs.Words.{CommandText, OfStore, OfWalk, named_text}
use Rattle.vt_walk_commands.specs.Machines.{Machines}
use Rattle.vt_commands.specs.commands.{spec_of}
use Rattle.vt_commands.specs.Waits.{is_waiting_name, may_wait, MayWait}
use Rattle.vt_commands.specs.Runs.{Run, Asks, NamesNoCommand, RunBadInput, RunInConflict, RunCaused, RunStopped, RunComplete, IsRun}

-- the first word says whether words may wait
pub first_waits : (words : List (String Global)) (name : String Global) (text : List ℕ) → 1 ≤ length words → name ≡ get_or words 0 name
    → text ≡ string_bytes name → is_waiting_name text ≡ may_wait (texts words)
first_waits [] name text some is shows = absurd (let no : ⊥ = omega arith in no)
first_waits (word ∷ rest) name text some is shows = ap is_waiting_name (shows ∙ ap string_bytes is)

-- the command does not wait
abbrev IsFree : CommandText → Type 0
IsFree command = MayWait command → ⊥

-- one of two, whichever the test picks
picked : (P : CommandText → Type 0) (p : CommandText) (b : Bool) (this rest : Option CommandText) → (this ≡ Some p → P p) → (rest ≡ Some p → P p)
    → (if b then this else rest) ≡ Some p → P p
picked P p true this rest here there is = here is
picked P p false this rest here there is = there is

made : {A B : Type 0} (P : B → Type 0) (p : B) (make : A → B) (value : Option A) → ((a : A) → value ≡ Some a → P (make a))
    → option_map make value ≡ Some p → P p
made P p make None all is = absurd (false≢true (ap is_some is))
made P p make (Some a) all is = let same : make a ≡ p = cc in subst P same (all a refl)

-- what follows from a value that is there
then_by : {A B : Type 0} (P : B → Type 0) (p : B) (value : Option A) (next : A → Option B) → ((a : A) → value ≡ Some a → next a ≡ Some p → P p)
    → given value next ≡ Some p → P p
then_by P p None next all is = absurd (false≢true (ap is_some is))
then_by P p (Some a) next all is = all a refl is

-- a name that is neither of the two is that of no other kind
kind_free : (replay walk trial : Bool) (it : WalkingKind) → walk ≡ false → trial ≡ false
    → (if replay then Some kind.Replay else (if walk then Some kind.Walk else (if trial then Some kind.Trial else None))) ≡ Some it → it ≡ kind.Replay
kind_free true walk trial it w t is = cc
kind_free false true trial it w t is = absurd (false≢true (sym w))
kind_free false false true it w t is = absurd (false≢true (sym t))
kind_free false false false it w t is = absurd (false≢true (ap is_some is))

values_free : (it : WalkingKind) (rows : List Row) (q : WalkingText) → it ≡ kind.Replay → values_for it rows ≡ Some q → IsFree (OfWalk q)
values_free kind.Replay rows q is asks = made (λ (q : WalkingText). IsFree (OfWalk q)) q ReplayCommand (replay_values rows) (λ a has x. x) asks
values_free kind.Walk rows q is asks = let no : ⊥ = cc in absurd no
values_free kind.Trial rows q is asks = let no : ⊥ = cc in absurd no

-- what the words of a command of another name ask for
named_free : (name : List ℕ) (words : List (List ℕ)) (p : CommandText) → bytes_eq name (codes "walk") ≡ false → bytes_eq name (codes "trial") ≡ false
    → named_text name words ≡ Some p → IsFree p
named_free name words p walk trial =
    picked IsFree p _ _ _
    (made IsFree p OfWalk (walking_text name words) (λ q asks.
    then_by (λ (q : WalkingText). IsFree (OfWalk q)) q (walking_kind_of name) _ (λ it is rest.
    then_by (λ (q : WalkingText). IsFree (OfWalk q)) q (found (app name (rules_of it)) words) (values_for it) (λ rows has values.
    values_free it rows q (kind_free _ _ _ it walk trial is) values) rest) asks))
    (made IsFree p OfStore (store_text name words) (λ a has x. x))

neither : (a b : Bool) → (a || b) ≡ false → (a ≡ false) × (b ≡ false)
neither true b never = absurd (false≢true (sym never))
neither false true never = absurd (false≢true (sym never))
neither false false never = (refl, refl)

one_of : (a b : Bool) → (a || b) ≡ true → (a ≡ true) ⊎ (b ≡ true)
one_of true b is = inl refl
one_of false true is = inr refl
one_of false false is = absurd (false≢true is)

pub is_at_once : (words : List (List ℕ)) → may_wait words ≡ false → (command : CommandText) → Asks words command → IsFree command
is_at_once [] never command asks = absurd (false≢true (ap is_some asks))
is_at_once (name ∷ words) never command asks = let other = neither _ _ never in named_free name (name ∷ words) command other.0 other.1 asks

-- what the words of these two names ask for
walk_waits : (words : List (List ℕ)) (p : CommandText) → named_text (codes "walk") words ≡ Some p → MayWait p
walk_waits words p =
    made MayWait p OfWalk (walking_text (codes "walk") words) (λ q asks.
    then_by (λ (q : WalkingText). MayWait (OfWalk q)) q (found (app (codes "walk") walk_rules) words) (values_for kind.Walk) (λ rows has values.
    made (λ (q : WalkingText). MayWait (OfWalk q)) q WalkCommand (walk_values rows) (λ a is. tt) values) asks)

trial_waits : (words : List (List ℕ)) (p : CommandText) → named_text (codes "trial") words ≡ Some p → MayWait p
trial_waits words p =
    made MayWait p OfWalk (walking_text (codes "trial") words) (λ q asks.
    then_by (λ (q : WalkingText). MayWait (OfWalk q)) q (found (app (codes "trial") trial_rules) words) (values_for kind.Trial) (λ rows has values.
    made (λ (q : WalkingText). MayWait (OfWalk q)) q TrialCommand (trial_values rows) (λ a is. tt) values) asks)

named_waiting : (name : List ℕ) (words : List (List ℕ)) (p : CommandText) → (bytes_eq name (codes "walk") ≡ true) ⊎ (bytes_eq name (codes "trial") ≡ true)
    → named_text name words ≡ Some p → MayWait p
named_waiting name words p (inl is) asks =
    walk_waits words p (subst (λ (n : List ℕ). named_text n words ≡ Some p) ((bytes_eq-Decides name (codes "walk")).0 is) asks)
named_waiting name words p (inr is) asks =
    trial_waits words p (subst (λ (n : List ℕ). named_text n words ≡ Some p) ((bytes_eq-Decides name (codes "trial")).0 is) asks)

pub is_waiting : (words : List (List ℕ)) → may_wait words ≡ true → (command : CommandText) → Asks words command → MayWait command
is_waiting [] is command asks = absurd (false≢true is)
is_waiting (name ∷ words) is command asks = named_waiting name (name ∷ words) command (one_of _ _ is) asks

-- the specification of a command that does not wait is the same by any machine
free_alike : (m n : Machines) (command : CommandText) → IsFree command → spec_of m command ≡ spec_of n command
free_alike m n (OfStore asked) free = refl
free_alike m n (OfWalk (ReplayCommand words)) free = refl
free_alike m n (OfWalk (WalkCommand words)) free = absurd (free tt)
free_alike m n (OfWalk (TrialCommand words)) free = absurd (free tt)

-- by other machines the specification of what a run's words ask for is the same
abbrev pub AreAlike : Machines → Run → Type 1
AreAlike n run = (command : CommandText) → Asks run.words command → spec_of run.machines command ≡ spec_of n command

-- the same run by other machines
abbrev pub by_others : Machines → Run → Run
by_others machines run = record run { machines = machines }

in_conflict_by : (n : Machines) (run : Run) (status : ℕ) → AreAlike n run → RunInConflict run status → RunInConflict (by_others n run) status
in_conflict_by n run status alike h = record {
  command = h.command;
  asks = h.asks;
  conflict = h.conflict;
  comes = h.comes;
  met = subst (λ (spec : CommandSpec). IsInConflict spec run.call_effect h.conflict) (alike h.command h.asks) h.met;
  printed = h.printed;
}

usage_by : (n : Machines) (run : Run) → AreAlike n run → NamesNoCommand run.words ⊎ RunInConflict run 2
    → NamesNoCommand run.words ⊎ RunInConflict (by_others n run) 2
usage_by n run alike (inl none) = inl none
usage_by n run alike (inr h) = inr (in_conflict_by n run 2 alike h)

bad_input_by : (n : Machines) (run : Run) → AreAlike n run → RunBadInput run → RunBadInput (by_others n run)
bad_input_by n run alike b = record {
  command = b.command;
  asks = b.asks;
  name = b.name;
  flaw = b.flaw;
  bad = subst (λ (spec : CommandSpec). HasBadInputBy spec run.call_effect b.name b.flaw) (alike b.command b.asks) b.bad;
  printed = b.printed;
}

caused_by : (n : Machines) (run : Run) (status : ℕ) → AreAlike n run → RunCaused run status → RunCaused (by_others n run) status
caused_by n run status alike r = λ p cause asks.
    subst (λ (spec : CommandSpec). (spec.failed run.call_effect → ⊥) → IsFirstCause run.call_effect.folder.before.files spec.inputs cause
    → (status ≡ cause_status cause) ⊎ (status ≡ 1)) (alike p asks) (λ none first. r p cause asks none first)

stopped_by : (n : Machines) (run : Run) (status : ℕ) → AreAlike n run → RunStopped run status → RunStopped (by_others n run) status
stopped_by n run status alike r = λ p contents conflict asks.
    subst (λ (spec : CommandSpec). (spec.failed run.call_effect → ⊥) → AreHeld run.call_effect.folder.before.files spec.inputs contents
    → spec.conflicts contents conflict → (status ≡ conflict_status conflict) ⊎ (status ≡ 1)) (alike p asks) (λ none held conflicts. r p contents conflict asks none held conflicts)

complete_by : (n : Machines) (run : Run) (status : ℕ) → AreAlike n run → RunComplete run status → RunComplete (by_others n run) status
complete_by n run status alike r = λ p contents asks.
    subst (λ (spec : CommandSpec). (spec.failed run.call_effect → ⊥) → AreHeld run.call_effect.folder.before.files spec.inputs contents
    → ((conflict : Conflict) → spec.conflicts contents conflict → ⊥) → (status ≡ 0) ⊎ (status ≡ 1)) (alike p asks) (λ none held met. r p contents asks none held met)

-- a run is one by all machines that are alike for its words
pub by_alike : (n : Machines) (run : Run) (status : ℕ) → AreAlike n run → IsRun run status → IsRun (by_others n run) status
by_alike n run status alike r = record {
  statuses = r.statuses;
  done = λ s.
      let d = r.done s in
      (d.0, d.1, subst (λ (spec : CommandSpec). DoneBy spec run.call_effect) (alike d.0 d.1) d.2);
  left = λ s p asks. subst (λ (spec : CommandSpec). LeftBySpec spec run.call_effect) (alike p asks) (r.left s p asks);
  untouched = r.untouched;
  asked = λ p asks. subst (λ (spec : CommandSpec). spec.asks run.call_effect) (alike p asks) (r.asked p asks);
  idle = r.idle;
  usage = λ s. usage_by n run alike (r.usage s);
  no_command = r.no_command;
  fault = λ s.
      let f = r.fault s in
      (f.0, f.1, subst (λ (spec : CommandSpec). HasFaultBy spec run.call_effect) (alike f.0 f.1) f.2);
  bad_input = λ s. bad_input_by n run alike (r.bad_input s);
  in_conflict = λ s. in_conflict_by n run 5 alike (r.in_conflict s);
  caused = caused_by n run status alike r.caused;
  stopped = stopped_by n run status alike r.stopped;
  complete = complete_by n run status alike r.complete;
  silent = r.silent;
  memory_printed = r.memory_printed;
  usage_printed = r.usage_printed;
  fault_printed = r.fault_printed;
}

-- a run that does not wait is one by any machine
pub by_any : (n : Machines) (run : Run) (status : ℕ) → may_wait run.words ≡ false → IsRun run status → IsRun (by_others n run) status
by_any n run status never r =
    by_alike n run status (λ command asks. free_alike run.machines n command (is_at_once run.words never command asks)) r
