-- The rule of a desk, which each step on it keeps.
use Rattle.std.specs.Prelude.{◌≡◌, ◌≢◌, Option}
use Rattle.atomic_table.specs.Table.{State}
use Rattle.vt_crew.specs.declared.views.DeskView.{DeskView}
use Rattle.vt_crew.specs.DeskPhases.{Phase, single, paired, free, asked, working, done, over, ended, with_hand, when_over, phase_state}

module _ {J : Type 0} (ready : J → Type 0) (did : J → J → Type 0) where
  -- what holds of the job in a phase: where it lies for the hand it may be done, and where it lies for the caller it was done; and no free
  -- desk has the word of a job or of an end
  abbrev pub IsSoundPhase : Phase J → Type 0
  IsSoundPhase single = Unit {0}
  IsSoundPhase paired = Unit {0}
  IsSoundPhase (free n) = (n ≢ with_hand) × (n ≢ when_over)
  IsSoundPhase (asked j) = ready j
  IsSoundPhase (working j) = Unit {0}
  IsSoundPhase (done j k) = did j k
  IsSoundPhase over = Unit {0}
  IsSoundPhase ended = Unit {0}

  -- the table is in some phase, of whose job that holds
  abbrev pub IsDeskKept : State (Option J) (DeskView J) → Type 0
  IsDeskKept s = (p : Phase J) × (s ≡ phase_state p) × IsSoundPhase p
