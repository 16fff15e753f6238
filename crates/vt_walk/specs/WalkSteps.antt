-- A walk between two passes, and after a pass.
use Rattle.std.specs.Prelude.{◌≡◌, ℕ, ◌+◌, ◌<◌, ◌≤◌, IsTrue, ◌↔◌, List, [], ◌∷◌, length, Option, IsSome, Result, MatchResult}
use Rattle.vt_ppm.specs.Depths.{IsDepth}
use Rattle.vt_pages.specs.Pages.{IsWithinLimits}
use Rattle.vt_tiles.specs.StoreViews.{IsStoreIfKnown}
use Rattle.vt_journal.specs.Passes.{pass_of as text_of}
use Rattle.vt_plan.specs.Views.{RecencyView, pages_needed}
use Rattle.vt_walk_decisions.specs.MachineTypes.crew.PassReport.{PassReport}
use Rattle.vt_walk_decisions.specs.Jobs.{Job}
use Rattle.vt_walk_decisions.specs.Requests.{FileState, AllKnown, AreReadFor}
use Rattle.vt_walk_decisions.specs.Outcomes.{lost_count}
use Rattle.vt_walk_decisions.specs.Machines.{MachineState}
use Rattle.vt_walk_decisions.specs.Passes.{Ran}
use Rattle.vt_walk_decisions.specs.declared.error.WalkError.{WalkError}
use Rattle.vt_walk_decisions.specs.declared.steps.WalkStep.{WalkStep}
use Rattle.vt_walk_decisions.specs.declared.steps.Passed.{Passed}
use Rattle.vt_walk_decisions.specs.declared.steps.Drawn.{Drawn}
use Rattle.vt_walk.specs.DrawnBy.{PictureDrawn, AnyRow}
use Rattle.vt_walk.specs.Runs.{WalkPass, IsWalkSetup, IsWalkRun, IsStepOf, IsNextPass, IsWhole, journal_after, recency_after, plan_after, content_pass}
use Rattle.vt_walk.specs.Logs.{passes_of, reads_of}
use Rattle.vt_walk.specs.Walks.{WalkGiven, setup_of_walk}
use Rattle.vt_walk.specs.States.{WalkState}
use Rattle.vt_walk.specs.Standing.{Stands}
use Rattle.vt_walk.specs.Leaving.{Left}
use Rattle.vt_walk.specs.Causes.{IsCausedBy}
use Rattle.vt_walk.specs.Tallies.{tally_of}

-- a walk is within its limits, and its bytes, where they are known, are a store
pub record IsGiven (g : WalkGiven) : Type 0 where
  pub setup : IsWalkSetup g.setup
  pub limits : IsWithinLimits g.scene.shape
  pub store : IsStoreIfKnown g.known g.scene.shape g.scene.depth
  pub depth : IsDepth g.scene.depth

-- what a walk began with: the store's bytes, where they are known, the store's file, and what was there
pub record WalkStart : Type 0 where
  pub known : Option (List ℕ)
  pub kept : FileState
  pub first : WalkState

-- a machine and the recency of its pages are as a run has left them
pub record IsAtRun (g : WalkGiven) (run : List WalkPass) (m : MachineState) (v : RecencyView) : Type 0 where
  pub is_run : IsWalkRun g.setup run
  pub setup : m.setup ≡ setup_of_walk g
  pub journal : m.journal ≡ journal_after g.setup run
  pub recency : v ≡ recency_after g.setup run

-- a step is that of a run's next pass, or nothing more is to follow: the picture and the batch are those of this pass, and its number,
-- the picture's tally and the number of tiles that were asked for are those of the run
pub record IsStep (g : WalkGiven) (run : List WalkPass) (number : ℕ) (t : WalkStep) : Type 0 where
  pub inside : t.picture ≤ g.setup.pictures
  pub step : IsStepOf g.setup run t.picture
  pub batch : t.batch.elements ≡ plan_after g.setup run
  pub tally : t.tally ≡ tally_of (passes_of t.picture run)
  pub reads : t.reads ≡ reads_of g.setup run
  pub number_is : number ≡ length run + 1

-- a machine may take a step
pub record MayTakeStep (g : WalkGiven) (run : List WalkPass) (number : ℕ) (t : WalkStep) (m : MachineState) (v : RecencyView) : Type 0 where
  pub given : IsGiven g
  pub at_run : IsAtRun g run m v
  pub step : IsStep g run number t
  pub more : t.picture < g.setup.pictures

-- what was counted of a pass that comes after a run
pub record IsCountedPass (g : WalkGiven) (run : List WalkPass) (pass : WalkPass) (p : Passed) : Type 0 where
  pub picture : p.picture ≡ pass.picture
  pub inside : pass.picture < g.setup.pictures
  pub loads_nothing : IsTrue p.loads_nothing ↔ (pass.batch ≡ [])
  pub lost : p.lost ≡ lost_count pass.losses
  pub wanted : p.next_plan.wanted ≡ length pass.wants
  pub needed : p.next_plan.needed ≡ pages_needed (recency_after g.setup (pass ∷ run)) pass.wants
  pub plan : p.next_plan.plan.elements ≡ plan_after g.setup (pass ∷ run)
  pub tally : p.tally ≡ tally_of (passes_of pass.picture (pass ∷ run))
  pub reads : p.reads ≡ reads_of g.setup (pass ∷ run)

-- the job of a pass of a walk
abbrev pub job_for : WalkGiven → WalkPass → Job
job_for g pass = record { scene = g.scene; picture = pass.picture; batch = pass.batch }

-- a machine has run a pass that comes after a run, and drawn its picture
pub record HasRun (drawn : PictureDrawn) (g : WalkGiven) (run : List WalkPass) (pass : WalkPass)
    (m : MachineState) : Type 0 where
  pub before : MachineState
  pub report : PassReport
  pub setup : before.setup ≡ setup_of_walk g
  pub journal : before.journal ≡ journal_after g.setup run
  pub ran : Ran g.draws AnyRow (job_for g pass) report before m
  pub by : drawn m g.scene.path pass.picture report.rows.elements
  pub rows_are : report.rows.elements ≡ pass.rows

-- a machine has drawn the next pass of a run, and streamed its batch
pub record HasDrawnPass (drawn : PictureDrawn) (g : WalkGiven) (run : List WalkPass) (t : WalkStep)
    (before after : MachineState) (v : RecencyView) (d : Drawn) : Type 0 where
  pub pass : WalkPass
  pub next : IsNextPass g.setup run pass
  pub picture : pass.picture ≡ t.picture
  pub batch : pass.batch ≡ t.batch.elements
  pub at_run : IsAtRun g (pass ∷ run) after v
  pub read : AreReadFor g.scene.shape g.scene.depth pass.batch pass.losses before.files after.files
  pub has_run : HasRun drawn g run pass after
  pub text : text_of d.text ≡ content_pass g.setup run pass
  pub passed : IsCountedPass g run pass d.passed

-- the beginning of a run is whole, and the step is that of its next pass
pub record StandsAtStep (drawn : PictureDrawn) (g : WalkGiven) (number : ℕ) (t : WalkStep) (first now : WalkState)
    (m : MachineState) (v : RecencyView) : Type 0 where
  pub run : List WalkPass
  pub pictures : List (List ℕ)
  pub count : t.picture ≡ length pictures
  pub given : IsGiven g
  pub stands : Stands drawn g run pictures first now
  pub at_run : IsAtRun g run m v
  pub step : IsStep g run number t
  pub all_known : IsSome now.asked → AllKnown m.files

-- the beginning of a run is whole, and its newest pass has just been made
pub record StandsAfter (drawn : PictureDrawn) (g : WalkGiven) (number : ℕ) (p : Passed)
    (first now : WalkState) (m : MachineState) (v : RecencyView) : Type 0 where
  pub run : List WalkPass
  pub pass : WalkPass
  pub pictures : List (List ℕ)
  pub count : pass.picture ≡ length pictures
  pub given : IsGiven g
  pub stands : Stands drawn g (pass ∷ run) pictures first now
  pub at_run : IsAtRun g (pass ∷ run) m v
  pub passed : IsCountedPass g run pass p
  pub has_run : HasRun drawn g run pass m
  pub number_is : number ≡ length run + 1
  pub all_known : IsSome now.asked → AllKnown m.files

-- a run has begun: nothing but the journal's head is there
pub record StandsFirst (drawn : PictureDrawn) (g : WalkGiven) (first now : WalkState) (m : MachineState) (v : RecencyView) : Type 0 where
  pub given : IsGiven g
  pub stands : Stands drawn g [] [] first now
  pub at_run : IsAtRun g [] m v
  pub all_known : IsSome now.asked → AllKnown m.files

-- a run is whole, in which so many tiles were asked for
pub record StandsLast (drawn : PictureDrawn) (g : WalkGiven) (reads : ℕ) (first now : WalkState) : Type 0 where
  pub run : List WalkPass
  pub pictures : List (List ℕ)
  pub given : IsGiven g
  pub stands : Stands drawn g run pictures first now
  pub whole : IsWhole g.setup run
  pub all : length pictures ≡ g.setup.pictures
  pub reads_are : reads ≡ reads_of g.setup run

-- a refused walk has left what it may, for its cause
abbrev pub LeftByRefusal : PictureDrawn → WalkGiven → WalkState → WalkState → WalkError → Type 0
LeftByRefusal drawn g first now error = Left drawn g first now × IsCausedBy drawn g first now error

-- a walk begins at its first step, or is refused, whatever its sink holds and has failed
abbrev pub BeginsWalk : PictureDrawn → WalkGiven → (Option (List ℕ) → ℕ → WalkState) → (Option (List ℕ) → ℕ → WalkState) → MachineState
    → Result RecencyView WalkError → Type 0
BeginsWalk drawn g first now m result = (held : Option (List ℕ)) (out_faults : ℕ)
    → MatchResult result (λ v. StandsFirst drawn g (first held out_faults) (now held out_faults) m v)
    (LeftByRefusal drawn g (first held out_faults) (now held out_faults))
