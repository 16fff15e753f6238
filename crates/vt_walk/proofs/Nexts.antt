-- A pass that was run is the next of the run.
use Rattle.std.proofs.Common.{◌≡◌, ◌<◌, Bool, List, ◌∷◌, ◌++◌, length, sym, ap, ◌∙◌, subst}
use Rattle.vt_journal.specs.declared.changes.Change.{Change}
use Rattle.vt_journal.specs.JournalText.{changes_of}
use Rattle.vt_feedback.specs.declared.Wanted.{Wanted}
use Rattle.vt_feedback.specs.Wants.{IsWants}
use Rattle.vt_plan.specs.Views.{RecencyView}
use Rattle.vt_evict.specs.Batches.{IsSettledByReads, read_entries}
use Rattle.vt_walk_decisions.specs.Drawings.{Drawing, RowRelation}
use Rattle.vt_walk_decisions.specs.MachineTypes.crew.PassReport.{PassReport}
use Rattle.vt_walk_decisions.specs.Jobs.{Job}
use Rattle.vt_walk_decisions.specs.RowOrders.{AreRowsInOrder}
use Rattle.vt_walk_decisions.specs.Machines.{MachineState}
use Rattle.vt_walk_decisions.specs.Passes.{Ran}
use Rattle.vt_walk.specs.Fits.{WalkSetup}
use Rattle.vt_walk.specs.Runs.{WalkPass, walk_pass_of, journal_after, recency_after, plan_after, IsStepOf, IsNextPass}

module _ (draws : Drawing) (drawn : RowRelation) where
  pub journal_grown : (w : WalkSetup) (before : List WalkPass) (job : Job) (report : PassReport) (wants : List Wanted)
      (settled : RecencyView) (s t : MachineState)
      → Ran draws drawn job report s t → s.journal ≡ journal_after w before
      → t.journal ≡ journal_after w (walk_pass_of job report wants settled ∷ before)
  journal_grown w before job report wants settled s t ran journal = ran.journal
      ∙ ap (λ (js : List Change). js ++ changes_of report.events.elements) journal

  pub comes_next : (w : WalkSetup) (before : List WalkPass) (job : Job) (report : PassReport) (wants : List Wanted)
      (settled : RecencyView) (s t : MachineState)
      → Ran draws drawn job report s t → w.dealt ≡ draws.dealt → w.samplers ≡ s.setup.crew.samplers → w.height ≡ s.setup.height
      → s.journal ≡ journal_after w before
      → IsStepOf w before job.picture → job.picture < w.pictures → job.batch ≡ plan_after w before → IsWants w.shape (w.needs job.picture) wants
      → IsSettledByReads (recency_after w before) (read_entries job.batch report.losses.elements) settled → IsNextPass w before (walk_pass_of job report wants settled)
  comes_next w before job report wants settled s t ran is_dealt samplers height journal step inside planned wanted settles =
      let grown = journal_grown w before job report wants settled s t ran journal in
      let a = subst (λ (d : Bool). AreRowsInOrder d s.setup.crew.samplers s.setup.height (length s.journal) (length t.journal) report.rows.elements)
      (sym is_dealt) ran.rows in
      let b = subst (λ n. AreRowsInOrder w.dealt n s.setup.height (length s.journal) (length t.journal) report.rows.elements) (sym samplers) a in
      let c = subst (λ n. AreRowsInOrder w.dealt w.samplers n (length s.journal) (length t.journal) report.rows.elements) (sym height) b in
      let d = subst (λ (js : List Change). AreRowsInOrder w.dealt w.samplers w.height (length js) (length t.journal) report.rows.elements) journal c in
      record {
        step = step;
        of_path = inside;
        planned = planned;
        wanted = wanted;
        outcome = ran.outcome;
        in_order = subst (λ (js : List Change). AreRowsInOrder w.dealt w.samplers w.height (length (journal_after w before)) (length js)
            report.rows.elements) grown d;
        settles = settles;
      }
