-- Runs: passes that follow one another, the newest pass first.
use Rattle.std.specs.Prelude.{◌≡◌, ◌⊎◌, ℕ, ◌+◌, ◌<◌, ◌≤◌, Bool, List, [], ◌∷◌, ◌++◌, length, flat_map}
use Rattle.vt_pages.specs.Limits.{most_frames, most_samplers}
use Rattle.vt_pages.specs.Pages.{IsWithinLimits, pages_of}
use Rattle.vt_journal.specs.declared.changes.Change.{Change}
use Rattle.vt_journal.specs.declared.changes.Event.{Event}
use Rattle.vt_journal.specs.declared.changes.RowLine.{RowLine}
use Rattle.vt_journal.specs.JournalText.{Pass, Content, changes_of, pinned_changes, journal_text}
use Rattle.vt_feedback.specs.declared.Wanted.{Wanted}
use Rattle.vt_feedback.specs.Wants.{IsWants}
use Rattle.vt_evict.specs.PlanTypes.batches.Planned.{Planned}
use Rattle.vt_plan.specs.Views.{RecencyView, first_view, touched}
use Rattle.vt_evict.specs.Batches.{IsSettledByReads, read_entries}
use Rattle.vt_plan.specs.Plans.{plan_of}
use Rattle.vt_walk_decisions.specs.MachineTypes.crew.PassReport.{PassReport}
use Rattle.vt_walk_decisions.specs.Jobs.{Job}
use Rattle.vt_walk_decisions.specs.Outcomes.{IsOutcome, lost_count}
use Rattle.vt_walk_decisions.specs.RowOrders.{AreRowsInOrder}
use Rattle.vt_walk_decisions.specs.Requests.{lost_entries}
use Rattle.vt_walk_decisions.specs.declared.mode.Mode.{Mode}
use Rattle.vt_walk_decisions.specs.declared.mode.Mode.TheVariants.{Live, Settled}
use Rattle.vt_walk.specs.Fits.{WalkSetup, PictureFits}

-- a pass: its picture, its batch and which entries were lost, its events and its rows, its picture's wanted list, and the table
-- and the order of its pages once the entries that were read are settled
pub record WalkPass : Type 0 where
  pub picture : ℕ
  pub batch : List Planned
  pub losses : List Bool
  pub events : List Event
  pub rows : List RowLine
  pub wants : List Wanted
  pub settled : RecencyView

-- the pass that did a job and reported this, where its picture has this wanted list, and the pages are settled so
abbrev pub walk_pass_of : Job → PassReport → List Wanted → RecencyView → WalkPass
walk_pass_of job report wants settled = record {
  picture = job.picture;
  batch = job.batch;
  losses = report.losses.elements;
  events = report.events.elements;
  rows = report.rows.elements;
  wants = wants;
  settled = settled;
}

-- the numbers of a walk are within their limits
pub record IsWalkSetup (w : WalkSetup) : Type 0 where
  pub limits : IsWithinLimits w.shape
  pub most_frames : w.frames ≤ most_frames
  pub some_pinned : 1 ≤ w.pinned
  pub enough_frames : w.pinned ≤ w.frames
  pub enough_pages : w.pinned ≤ pages_of w.shape
  pub few_samplers : w.samplers ≤ most_samplers
  pub some_entry : 1 ≤ w.most

-- the changes of the page table after passes: the pinned pages were mapped first (Mayer 2010)
abbrev pub journal_after : WalkSetup → List WalkPass → List Change
journal_after w [] = pinned_changes w.shape w.pinned
journal_after w (p ∷ passes) = journal_after w passes ++ changes_of p.events

-- the table and its unpinned pages after passes, the most recent first: those in the lines of the newest wanted pages, then those
-- that were read. So each page keeps its greatest stamp, and the order is that of the stamps (law run_order_is_by_stamps)
abbrev pub recency_after : WalkSetup → List WalkPass → RecencyView
recency_after w [] = first_view w.shape w.frames w.pinned
recency_after w (p ∷ passes) = touched p.settled p.wants

-- what is planned next: nothing at first, and then what the newest pass's picture misses (van Waveren 2012)
abbrev pub plan_after : WalkSetup → List WalkPass → List Planned
plan_after w [] = []
plan_after w (p ∷ passes) = plan_of (touched p.settled p.wants) p.wants w.most

-- a picture is finished by a pass with this batch and this plan after it: live by each pass, settled by one that loads nothing and
-- after which nothing is planned
abbrev pub Finishes : Mode → List Planned → List Planned → Type 0
Finishes Live batch plan = Unit {0}
Finishes Settled batch plan = (batch ≡ []) × (plan ≡ [])

-- the newest pass finishes its picture
abbrev pub IsFinished : WalkSetup → WalkPass → List WalkPass → Type 0
IsFinished w p passes = Finishes w.mode p.batch (plan_after w (p ∷ passes))

-- a walk of this mode may go on after a pass: settled only where nothing was lost and the picture fits
abbrev pub WalkGoesOn : Mode → WalkSetup → WalkPass → Type 0
WalkGoesOn Live w p = Unit {0}
WalkGoesOn Settled w p = (lost_count p.losses ≡ 0) × PictureFits w p.picture

-- the next picture, where the one before is finished, else the same
abbrev pub IsPictureAfter : Type 0 → ℕ → ℕ → Type 0
IsPictureAfter finished before picture = (finished × (picture ≡ before + 1)) ⊎ ((finished → ⊥) × (picture ≡ before))

-- a picture's pass may come after passes
abbrev pub IsStepOf : WalkSetup → List WalkPass → ℕ → Type 0
IsStepOf w [] picture = picture ≡ 0
IsStepOf w (p ∷ passes) picture = WalkGoesOn w.mode w p × IsPictureAfter (IsFinished w p passes) p.picture picture

-- a pass may come after passes: it has the picture that is to be drawn next and the batch that was planned (so a settled picture begins
-- with the empty batch: law pictures_come_in_turn), its events are an outcome of its batch, and its rows are in order
pub record IsNextPass (w : WalkSetup) (before : List WalkPass) (p : WalkPass) : Type 0 where
  pub step : IsStepOf w before p.picture
  pub of_path : p.picture < w.pictures
  pub planned : p.batch ≡ plan_after w before
  pub wanted : IsWants w.shape (w.needs p.picture) p.wants
  pub outcome : IsOutcome p.batch p.losses p.events
  pub in_order : AreRowsInOrder w.dealt w.samplers w.height (length (journal_after w before)) (length (journal_after w (p ∷ before))) p.rows
  pub settles : IsSettledByReads (recency_after w before) (read_entries p.batch p.losses) p.settled

-- each pass may come after those before it
abbrev pub IsWalkRun : WalkSetup → List WalkPass → Type 0
IsWalkRun w [] = Unit {0}
IsWalkRun w (p ∷ passes) = IsWalkRun w passes × IsNextPass w passes p

-- every picture has its passes, and nothing more is to follow
abbrev pub IsWhole : WalkSetup → List WalkPass → Type 0
IsWhole w [] = w.pictures ≡ 0
IsWhole w (p ∷ passes) = WalkGoesOn w.mode w p × IsFinished w p passes × (p.picture + 1 ≡ w.pictures)

-- all entries of the batches of passes
abbrev pub planned_in : List WalkPass → List Planned
planned_in passes = flat_map (λ p. p.batch) passes

-- the entries that were lost in passes
abbrev pub lost_in : List WalkPass → List Planned
lost_in passes = flat_map (λ p. lost_entries p.batch p.losses) passes

-- what the journal's text tells of a pass that comes after passes
abbrev pub content_pass : WalkSetup → List WalkPass → WalkPass → Pass
content_pass w before p = record { pass = length before + 1; picture = p.picture; start = length (journal_after w before); events = p.events; rows = p.rows }

-- what it tells of passes, the first pass first
abbrev pub content_passes : WalkSetup → List WalkPass → List Pass
content_passes w [] = []
content_passes w (p ∷ passes) = content_passes w passes ++ content_pass w passes p ∷ []

-- the content of the journal's text of passes
abbrev pub run_content : WalkSetup → List WalkPass → Content
run_content w passes = record { pinned = w.pinned; passes = content_passes w passes }

-- the journal's text of passes
abbrev pub run_text : WalkSetup → List WalkPass → List ℕ
run_text w passes = journal_text w.shape (run_content w passes)
