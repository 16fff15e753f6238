-- How far a desk has come: what its word, its slot and its two ends then are. A desk is a table of one word, which says whose turn it is, one slot
-- for a job, and two seats, the caller's first.
use Rattle.std.specs.Prelude.{ℕ, List, [], ◌∷◌, Option, Some, None}
use mathlib.Core.Option.{some, none}
use mathlib.Core.Option as maybe
use Rattle.atomic_table.specs.Table.{State}
use Rattle.vt_crew.specs.declared.views.DeskView.{DeskView}
use Rattle.vt_crew.specs.declared.views.DeskView.TheVariants.{Alone, Fresh, Free, Waiting, Idle, Working, Left}

-- the word while a job lies there for the hand
abbrev pub with_hand : ℕ
with_hand = 1

-- the word once the job was done
abbrev pub with_caller : ℕ
with_caller = 2

-- the word once the caller has left
abbrev pub when_over : ℕ
when_over = 3

-- the word once the hand has begun a job
abbrev pub when_begun : ℕ
when_begun = 4

-- how far a desk has come: it has one seat; it has two; the caller has the slot, and the word is this; a job lies there for the hand; the hand
-- has begun it; it was done, and lies there as this for the caller; the caller has left; the hand has left too
pub data Phase (J : Type 0) : Type 0 where
  single : Phase J
  paired : Phase J
  free : ℕ → Phase J
  asked : J → Phase J
  working : J → Phase J
  done : J → J → Phase J
  over : Phase J
  ended : Phase J

module _ {J : Type 0} where
  -- the word in a phase
  abbrev pub turn_in : Phase J → ℕ
  turn_in single = 0
  turn_in paired = 0
  turn_in (free n) = n
  turn_in (asked j) = with_hand
  turn_in (working j) = when_begun
  turn_in (done j k) = with_caller
  turn_in over = when_over
  turn_in ended = when_over

  -- what lies in the slot, or none while an end has the slot
  abbrev pub home_in : Phase J → maybe.Option (Option J)
  home_in single = some None
  home_in paired = some None
  home_in (free n) = none
  home_in (asked j) = some (Some j)
  home_in (working j) = none
  home_in (done j k) = some (Some k)
  home_in over = some None
  home_in ended = some None

  -- what the caller's end knows
  abbrev pub caller_in : Phase J → DeskView J
  caller_in single = Alone
  caller_in paired = Fresh
  caller_in (free n) = Free
  caller_in (asked j) = Waiting j
  caller_in (working j) = Waiting j
  caller_in (done j k) = Waiting j
  caller_in over = Left
  caller_in ended = Left

  -- what the hand's end knows, if there is one
  abbrev pub hands_in : Phase J → List (DeskView J)
  hands_in single = []
  hands_in paired = Idle ∷ []
  hands_in (free n) = Idle ∷ []
  hands_in (asked j) = Idle ∷ []
  hands_in (working j) = Working j ∷ []
  hands_in (done j k) = Idle ∷ []
  hands_in over = Idle ∷ []
  hands_in ended = Left ∷ []

  -- what the ends know
  abbrev pub views_in : Phase J → List (DeskView J)
  views_in p = caller_in p ∷ hands_in p

  -- the table in a phase
  abbrev pub phase_state : Phase J → State (Option J) (DeskView J)
  phase_state p = record { words = turn_in p ∷ []; homes = home_in p ∷ []; views = views_in p }
