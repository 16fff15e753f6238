-- A walk whose next pass was run, or drawn, before its text is appended.
use Rattle.std.specs.Prelude.{◌≡◌, ℕ, ◌+◌, ◌<◌, List, length, Option}
use Rattle.vt_plan.specs.Views.{RecencyView}
use Rattle.vt_walk_decisions.specs.MachineTypes.crew.PassReport.{PassReport}
use Rattle.vt_walk_decisions.specs.Requests.{FileState}
use Rattle.vt_walk_decisions.specs.Machines.{MachineState}
use Rattle.vt_walk_decisions.specs.Passes.{Ran}
use Rattle.vt_walk_decisions.specs.declared.steps.WalkStep.{WalkStep}
use Rattle.vt_walk_decisions.specs.declared.steps.Drawn.{Drawn}
use Rattle.vt_walk_decisions.specs.declared.steps.Next.{Next}
use Rattle.vt_walk_decisions.specs.declared.steps.Next.TheVariants as next
use Rattle.vt_walk.specs.DrawnBy.{PictureDrawn, AnyRow}
use Rattle.vt_walk.specs.Runs.{WalkPass}
use Rattle.vt_walk.specs.Walks.{WalkGiven}
use Rattle.vt_walk.specs.States.{WalkState}
use Rattle.vt_walk.specs.WalkSteps.{IsGiven, IsAtRun, IsStep, MayTakeStep, HasDrawnPass, StandsAtStep, StandsLast}

-- what a pass began with: the store's bytes, where they are known, the run before it, and the machine
pub record PassBefore : Type 0 where
  pub known : Option (List ℕ)
  pub run : List WalkPass
  pub machine : MachineState

-- a step is that of a run's next pass, or all pictures are finished
pub record MayStep (g : WalkGiven) (run : List WalkPass) (number : ℕ) (t : WalkStep) (m : MachineState) (v : RecencyView) : Type 0 where
  pub given : IsGiven g
  pub at_run : IsAtRun g run m v
  pub step : IsStep g run number t

-- a machine has run the pass of a step, beginning at this version, and drawn its picture
pub record HasRunStep (drawn : PictureDrawn) (g : WalkGiven) (run : List WalkPass) (number : ℕ) (t : WalkStep) (start : ℕ)
    (r : PassReport) (before after : MachineState) (v : RecencyView) : Type 0 where
  pub may : MayTakeStep g run number t before v
  pub start_is : start ≡ length before.journal
  pub ran : Ran g.draws AnyRow (record { scene = g.scene; picture = t.picture; batch = t.batch.elements }) r before after
  pub by : drawn after g.scene.path t.picture r.rows.elements

-- the pass of a step has been drawn, or all pictures are finished and nothing was done
abbrev pub DrawsNext : PictureDrawn → WalkGiven → List WalkPass → WalkStep → MachineState → MachineState → RecencyView → Next
    → Type 0
DrawsNext drawn g run t before after v (next.Pass d) = (t.picture < g.setup.pictures) × HasDrawnPass drawn g run t before after v d
DrawsNext drawn g run t before after v (next.End reads) = (t.picture ≡ g.setup.pictures) × (reads ≡ t.reads) × (after ≡ before)

-- the beginning of a run is whole, and its next pass has been run, with what is there by the files that are open
pub record StandsRan (drawn : PictureDrawn) (g : WalkGiven) (number : ℕ) (t : WalkStep) (start : ℕ) (r : PassReport)
    (first : WalkState) (at : List FileState → WalkState) (m : MachineState) (v : RecencyView) : Type 0 where
  pub before : MachineState
  pub stands : StandsAtStep drawn g number t first (at before.files) before v
  pub has_run : HasRunStep drawn g stands.run number t start r before m v

-- the beginning of a run is whole, and its next pass has been drawn, and is to be journaled
pub record StandsDrawn (drawn : PictureDrawn) (g : WalkGiven) (number : ℕ) (d : Drawn)
    (first : WalkState) (at : List FileState → WalkState) (m : MachineState) (v : RecencyView) : Type 0 where
  pub step : WalkStep
  pub before : MachineState
  pub recency : RecencyView
  pub stands : StandsAtStep drawn g number step first (at before.files) before recency
  pub more : step.picture < g.setup.pictures
  pub has_drawn : HasDrawnPass drawn g stands.run step before m v d

-- a run is whole, and one more pass would have this number
pub record StandsEnd (drawn : PictureDrawn) (g : WalkGiven) (number reads : ℕ) (first now : WalkState) : Type 0 where
  pub last : StandsLast drawn g reads first now
  pub number_is : number ≡ length last.run + 1

-- the beginning of a run is whole, and its next pass has been drawn; or the run is whole
abbrev pub StandsNext : PictureDrawn → WalkGiven → ℕ → Next → WalkState → (List FileState → WalkState) → MachineState
    → RecencyView → Type 0
StandsNext drawn g number (next.Pass d) first at m v = StandsDrawn drawn g number d first at m v
StandsNext drawn g number (next.End reads) first at m v = StandsEnd drawn g number reads first (at m.files)
