-- How a walk stands at a time, and where its steps take it.
use Rattle.std.specs.Prelude.{ℕ, ◌+◌, List, ◌∷◌, ◌++◌, sum, length, option_map, Result, MatchResult}
use Rattle.vt_outside.specs.Counts.{added}
use Rattle.vt_outside.specs.Files.{Asked}
use Rattle.vt_walk_decisions.specs.Drawings.{Drawing}
use Rattle.vt_walk_decisions.specs.MachineTypes.machine.PassMachine.{Ghosts as MachineMeanings}
use Rattle.vt_walk_decisions.specs.MachineTypes.crew.PassReport.{PassReport}
use Rattle.vt_walk_decisions.specs.Requests.{FileState, counts_of}
use Rattle.vt_walk_decisions.specs.declared.error.WalkError.{WalkError}
use Rattle.vt_walk_decisions.specs.declared.input.WalkInput.{WalkInput}
use Rattle.vt_walk_decisions.specs.declared.steps.WalkStep.{WalkStep}
use Rattle.vt_walk_decisions.specs.declared.steps.Passed.{Passed}
use Rattle.vt_walk_decisions.specs.declared.steps.Drawn.{Drawn}
use Rattle.vt_walk_decisions.specs.declared.steps.Next.{Next}
use Rattle.vt_walk.specs.declared.walk_steps.Walked.{Walked}
use Rattle.vt_walk_decisions.specs.Reported.{next_step}
use Rattle.vt_walk.specs.DrawnBy.{PictureDrawn, IsDrawnBySome}
use Rattle.vt_walk.specs.Walks.{WalkGiven}
use Rattle.vt_walk.specs.WalkInputs.{given_of}
use Rattle.vt_walk.specs.States.{WalkState, places_of}
use Rattle.vt_walk.specs.Standing.{Finished}
use Rattle.vt_walk.specs.WalkSteps.{WalkStart, StandsFirst, StandsAtStep, StandsAfter, StandsLast, LeftByRefusal}
use Rattle.vt_walk.specs.Following.{StandsRan, StandsDrawn, StandsNext}
use Rattle.vt_walk.specs.Moments.{Moment}

-- a walk: its input, how its machine draws, and the pictures that a machine of its kind has drawn
pub record WalkBy : Type 1 where
  pub drawn : PictureDrawn
  pub draws : Drawing
  pub input : WalkInput

-- that of an input, by a kind of machines
abbrev pub walk_by : {M F Shared Loader Sampler Streamer : Type 0} → MachineMeanings M F Shared Loader Sampler Streamer → WalkInput → WalkBy
walk_by kind input = record { drawn = IsDrawnBySome kind; draws = kind.drawing; input = input }

-- what it is given, by what it began with
abbrev pub given_in : WalkBy → WalkStart → WalkGiven
given_in w b = given_of w.draws w.input b.known

-- what is there at a time, with the store's file and the files of the machine
abbrev pub state_in : WalkBy → WalkStart → Moment → List FileState → WalkState
state_in w b t files = record {
  files = t.files;
  held = t.held;
  faults = added t.faults (sum (counts_of (b.kept ∷ files)));
  out_faults = t.out_faults;
  asked = option_map (λ (asked : Asked). asked w.input.names.store.now ++ places_of (b.kept ∷ files)) t.asked;
}

-- no pass was run
abbrev pub AtFirst : WalkBy → WalkStart → Moment → Type 0
AtFirst w b t = StandsFirst w.drawn (given_in w b) b.first (state_in w b t t.machine.files) t.machine t.recency

-- the step of the pass with this number is next
abbrev pub AtStep : WalkBy → WalkStart → Moment → ℕ → WalkStep → Type 0
AtStep w b t number step = StandsAtStep w.drawn (given_in w b) number step b.first (state_in w b t t.machine.files) t.machine t.recency

-- the pass with this number was run
abbrev pub AtRun : WalkBy → WalkStart → Moment → ℕ → WalkStep → ℕ → PassReport → Type 0
AtRun w b t number step start report = StandsRan w.drawn (given_in w b) number step start report b.first (state_in w b t) t.machine t.recency

-- it was drawn, and is to be journaled
abbrev pub AtDrawn : WalkBy → WalkStart → Moment → ℕ → Drawn → Type 0
AtDrawn w b t number drawn = StandsDrawn w.drawn (given_in w b) number drawn b.first (state_in w b t) t.machine t.recency

-- it was journaled
abbrev pub AtPass : WalkBy → WalkStart → Moment → ℕ → Passed → Type 0
AtPass w b t number passed = StandsAfter w.drawn (given_in w b) number passed b.first (state_in w b t t.machine.files) t.machine t.recency

-- the pass with this number was drawn, or all pictures are finished
abbrev pub AtNext : WalkBy → WalkStart → Moment → ℕ → Next → Type 0
AtNext w b t number next = StandsNext w.drawn (given_in w b) number next b.first (state_in w b t) t.machine t.recency

-- all pictures are finished, and all but the last line was put
abbrev pub AtLast : WalkBy → WalkStart → Moment → ℕ → Type 0
AtLast w b t reads = StandsLast w.drawn (given_in w b) reads b.first (state_in w b t t.machine.files)

-- the walk is done
abbrev pub AtEnd : WalkBy → WalkStart → Moment → Type 0
AtEnd w b t = Finished w.drawn (given_in w b) b.first (state_in w b t t.machine.files)

-- the walk was refused, and has left what it may
abbrev pub IsLeft : WalkBy → WalkStart → Moment → WalkError → Type 0
IsLeft w b t error = LeftByRefusal w.drawn (given_in w b) b.first (state_in w b t t.machine.files) error

-- however the walk began: from where no pass was run to where all pictures are finished, or it was refused
abbrev pub TakesSteps : WalkBy → Moment → Moment → Result Walked WalkError → Type 0
TakesSteps w before after result = (b : WalkStart) → AtFirst w b before → MatchResult result (λ walked. AtLast w b after walked.reads) (IsLeft w b after)

-- to where the walk is done
abbrev pub WalksOn : WalkBy → Moment → Moment → Result Walked WalkError → Type 0
WalksOn w before after result = (b : WalkStart) → AtFirst w b before → MatchResult result (λ _. AtEnd w b after) (IsLeft w b after)

-- from a pass that was drawn to where it is journaled
abbrev pub JournalsPass : WalkBy → ℕ → Drawn → Moment → Moment → Result Passed WalkError → Type 0
JournalsPass w number drawn before after result = (b : WalkStart) → AtDrawn w b before number drawn
    → MatchResult result (AtPass w b after number) (IsLeft w b after)

-- from a pass that was drawn to the next one
abbrev pub GoesFromDrawn : WalkBy → ℕ → Drawn → Moment → Moment → Result Next WalkError → Type 0
GoesFromDrawn w number drawn before after result = (b : WalkStart) → AtDrawn w b before number drawn
    → MatchResult result (AtNext w b after (number + 1)) (IsLeft w b after)

-- from a pass that was journaled to the next one that is drawn
abbrev pub GoesFromPass : WalkBy → ℕ → Passed → Moment → Moment → Result Next WalkError → Type 0
GoesFromPass w number passed before after result = (b : WalkStart) → AtPass w b before number passed
    → MatchResult result (AtNext w b after (number + 1)) (IsLeft w b after)

-- from a pass that was journaled to the step of the next one
abbrev pub EndsPass : WalkBy → ℕ → Passed → Moment → Moment → Result WalkStep WalkError → Type 0
EndsPass w number passed before after result = (b : WalkStart) → AtPass w b before number passed
    → MatchResult result (AtStep w b after (number + 1)) (IsLeft w b after)

-- from a pass that was journaled to the next picture's first one, which was run
abbrev pub RunsBeside : WalkBy → ℕ → Passed → Moment → Moment → Result PassReport WalkError → Type 0
RunsBeside w number passed before after result = (b : WalkStart) → AtPass w b before number passed
    → MatchResult result (AtRun w b after (number + 1) (next_step passed) (length before.machine.journal)) (IsLeft w b after)
