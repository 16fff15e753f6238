-- What a walk knows of a pass by its report.
use Rattle.std.specs.Prelude.{◌≡◌, ℕ, ◌+◌, IsTrue, ◌↔◌, [], length}
use Rattle.vt_journal.specs.JournalText.{Pass}
use Rattle.vt_journal.specs.Passes.{pass_of as text_of}
use Rattle.vt_machine.specs.declared.crew.PassReport.{PassReport}
use Rattle.vt_machine.specs.Outcomes.{lost_count}
use Rattle.vt_walk_decisions.specs.declared.steps.NextPlan.{NextPlan}
use Rattle.vt_walk_decisions.specs.declared.steps.WalkStep.{WalkStep}
use Rattle.vt_walk_decisions.specs.declared.steps.Drawn.{Drawn}
use Rattle.vt_walk_decisions.specs.declared.steps.Passed.{Passed}
use Rattle.vt_walk_decisions.specs.Tallies.{with_pass, no_passes}

-- the text of a pass, by its step, its number, the version at its beginning and its report
abbrev pub reported_text : ℕ → WalkStep → ℕ → PassReport → Pass
reported_text number t start r = record { pass = number; picture = t.picture; start = start; events = r.events.elements; rows = r.rows.elements }

-- a pass as its step, its report and what it leaves tell it
pub record IsReported (number : ℕ) (t : WalkStep) (start : ℕ) (r : PassReport) (o : NextPlan) (d : Drawn) : Type 0 where
  pub picture : d.passed.picture ≡ t.picture
  pub loads_nothing : IsTrue d.passed.loads_nothing ↔ (t.batch.elements ≡ [])
  pub lost : d.passed.lost ≡ lost_count r.losses.elements
  pub next_plan : d.passed.next_plan ≡ o
  pub tally : d.passed.tally ≡ with_pass r.events.elements t.tally
  pub reads : d.passed.reads ≡ t.reads + length t.batch.elements
  pub text : text_of d.text ≡ reported_text number t start r

-- the step after a pass that has finished its picture
abbrev pub next_step : Passed → WalkStep
next_step p = record { picture = p.picture + 1; batch = p.next_plan.plan; tally = no_passes; reads = p.reads }
