-- Which commands may wait for other threads: `walk` and `trial`.
use Rattle.std.specs.Prelude.{ℕ, List, [], ◌∷◌, Bool, false, ◌||◌, codes}
use Rattle.std.specs.Str.{bytes_eq}
use Rattle.vt_command_words.specs.Commands.{ReplayCommand, WalkCommand, TrialCommand}
use Rattle.vt_commands.specs.Words.{CommandText, OfStore, OfWalk}
use Rattle.vt_walk_commands.specs.Machines.{MachineKind, Machines}

-- the name is that of a command that may wait
abbrev pub is_waiting_name : List ℕ → Bool
is_waiting_name name = bytes_eq name (codes "walk") || bytes_eq name (codes "trial")

-- the first of the words is such a name
abbrev pub may_wait : List (List ℕ) → Bool
may_wait [] = false
may_wait (name ∷ words) = is_waiting_name name

-- the command may wait
abbrev pub MayWait : CommandText → Type 0
MayWait (OfStore asked) = ⊥
MayWait (OfWalk (ReplayCommand words)) = ⊥
MayWait (OfWalk (WalkCommand words)) = Unit {0}
MayWait (OfWalk (TrialCommand words)) = Unit {0}

-- of no machine
abbrev pub no_machine : MachineKind
no_machine = record {
  draws = record {
    dealt = false;
    needs = λ scene picture page. 0;
    shows = λ scene bytes table picture x y. [];
    whole = λ scene bytes picture x y. [];
  };
  drawn = λ machine path picture lines. ⊥;
}

-- with no machine: the specification of a command that does not wait is the same by any
abbrev pub no_machines : Machines
no_machines = record { standard = no_machine; swapped_table = no_machine; shared_rows = no_machine; bilinear = no_machine }
