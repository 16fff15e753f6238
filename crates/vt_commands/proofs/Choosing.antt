-- A walk by the kind of machine that the words choose.
use Rattle.std.proofs.Common.{◌≡◌, ℕ, List, Some, refl, sym, ap, ◌∙◌, subst}
use Rattle.std.specs.Prelude.{Result}
use Rattle.std.proofs.lemmas.Option.{same_Some}
use Rattle.vt_command_words.specs.Walk.{WalkText}
use Rattle.vt_command_words.specs.Commands.{ReplayCommand, WalkCommand, TrialCommand}
use Rattle.vt_command_words.specs.declared.machines.MachineChoice.{MachineChoice}
use Rattle.vt_command_words.specs.declared.machines.MachineChoice.TheVariants.{Standard, SwappedTable, SharedRows, Bilinear}
use Rattle.vt_command_inputs.specs.Effects.{CallEffect}
use Rattle.vt_command_inputs.specs.CommandSpecs.{EndsBy}
use Rattle.vt_command_inputs.specs.declared.refusal.Refusal.{Refusal}
use Rattle.vt_walk_commands.specs.commands.Walk.{walk_spec}
use Rattle.vt_walk_commands.specs.Machines.{MachineKind, Machines, machines_of, kind_by, chosen}
use Rattle.vt_commands.specs.Words.{CommandText, OfStore, OfWalk}
use Rattle.vt_commands.specs.Choices.{choice_in}
use Rattle.vt_commands.specs.commands.{spec_of}
use Rattle.vt_commands.specs.Runs.{Run, Asks, IsRun}
use Rattle.vt_commands.proofs.Waits.{by_others, by_alike}

-- a walk by the kind of the words' choice is one by the kind that the words choose
pub by_choice : (machines : Machines) (words : WalkText) (choice : MachineChoice) (c : CallEffect) (r : Result (Unit {0}) Refusal)
    → words.machine ≡ choice → EndsBy (walk_spec (kind_by machines choice) words) c r → EndsBy (walk_spec (chosen machines words) words) c r
by_choice machines words choice c r is ends = subst (λ (m : MachineChoice). EndsBy (walk_spec (kind_by machines m) words) c r) (sym is) ends

-- with one kind for each choice, any choice is of that kind
kind_of_one : (k : MachineKind) (choice : MachineChoice) → kind_by (machines_of k k k k) choice ≡ k
kind_of_one k Standard = refl
kind_of_one k SwappedTable = refl
kind_of_one k SharedRows = refl
kind_of_one k Bilinear = refl

-- where a command chooses this kind, it asks the same of machines that are all of it
same_by_one : (machines : Machines) (k : MachineKind) (command : CommandText) → kind_by machines (choice_in command) ≡ k
    → spec_of (machines_of k k k k) command ≡ spec_of machines command
same_by_one machines k (OfStore asked) is = refl
same_by_one machines k (OfWalk (ReplayCommand words)) is = refl
same_by_one machines k (OfWalk (WalkCommand words)) is = ap (λ (x : MachineKind). walk_spec x words) (kind_of_one k words.machine ∙ sym is)
same_by_one machines k (OfWalk (TrialCommand words)) is = refl

-- and so of words that ask for such a command
alike_by_one : (machines : Machines) (k : MachineKind) (words : List (List ℕ)) (command : CommandText) → Asks words command
    → kind_by machines (choice_in command) ≡ k
    → (other : CommandText) → Asks words other → spec_of (machines_of k k k k) other ≡ spec_of machines other
alike_by_one machines k words command asks is other asks_other =
    subst (λ (c : CommandText). spec_of (machines_of k k k k) c ≡ spec_of machines c) (same_Some command other (sym asks ∙ asks_other))
    (same_by_one machines k command is)

-- a run by machines that are all of the kind that the words choose is one by the machines that they choose from
pub run_by_choice : (run : Run) (choice : MachineChoice) (status : ℕ) (command : CommandText) → Asks run.words command → choice_in command ≡ choice
    → (let k = kind_by run.machines choice in IsRun (by_others (machines_of k k k k) run) status) → IsRun run status
run_by_choice run choice status command asks is r =
    let k = kind_by run.machines choice in
    by_alike run.machines (by_others (machines_of k k k k) run) status
    (alike_by_one run.machines k run.words command asks (ap (λ (x : MachineChoice). kind_by run.machines x) is)) r
