-- A pass that a machine has run is the next of its walk's run.
use Rattle.std.proofs.Common.{◌≡◌, ℕ, ◌+◌, ◌<◌, ◌≤◌, ◌^◌, Bool, true, false, nat_lt, List, [], ◌∷◌, length, Option, Result, Ok, Err, refl, sym, ap, ◌∙◌, subst, arith}
use Rattle.std.specs.Prelude.{All, IsSome, slice_index, count_by, if◌then◌else◌, ◌==◌}
use Rattle.std.proofs.lemmas.List.Sums.{sum_by-cons}
use Rattle.vt_pages.specs.Limits.{most_versions, most_entries}
use Rattle.vt_pages.specs.Shape.{Shape}
use Rattle.vt_pages.specs.Pages.{pages_of, root_of}
use Rattle.vt_journal.specs.declared.changes.Change.{Change}
use Rattle.vt_journal.specs.declared.changes.Event.{Event}
use Rattle.vt_journal.specs.Changes.{newest}
use Rattle.vt_journal.specs.JournalText.{Pass, IsEventInChain}
use Rattle.vt_feedback.specs.declared.Wanted.{Wanted}
use Rattle.vt_feedback.specs.Wants.{IsWants}
use Rattle.vt_evict.specs.PlanTypes.batches.Planned.{Planned}
use Rattle.vt_plan.specs.Views.{RecencyView, pages_needed}
use Rattle.vt_evict.specs.Batches.{IsLawfulBatch, IsSettledByReads, read_entries}
use Rattle.vt_plan.specs.Plans.{plan_of}
use Rattle.vt_walk_decisions.specs.Drawings.{Drawing, RowRelation}
use Rattle.vt_walk_decisions.specs.MachineTypes.machine.PassMachine.{Ghosts as MachineMeanings}
use Rattle.vt_walk_decisions.specs.MachineTypes.crew.PassReport.{PassReport}
use Rattle.vt_walk_decisions.specs.Crews.{last_start}
use Rattle.vt_walk_decisions.specs.Jobs.{Job}
use Rattle.vt_walk_decisions.specs.Outcomes.{IsBatchFor, IsOutcome}
use Rattle.vt_walk_decisions.specs.Requests.{FileState, AreReadFor, ArePartlyReadFor, counts_of, lost_entries}
use Rattle.vt_outside.specs.Counts.{RoseTogetherBy}
use Rattle.vt_outside.specs.declared.answers.NoMemory.{NoMemory}
use Rattle.vt_walk_decisions.specs.Machines.{Setup, MachineState}
use Rattle.vt_walk_decisions.specs.Passes.{MayPrepare, IsJobFor, Ran, Broke, EndsPassRun}
use Rattle.vt_walk_decisions.specs.declared.steps.NextPlan.{NextPlan}
use Rattle.vt_walk_decisions.specs.declared.tallies.Tally.{Tally}
use Rattle.vt_walk_decisions.specs.declared.input.WalkInput.{WalkInput}
use Rattle.vt_walk_decisions.specs.declared.steps.WalkStep.{WalkStep}
use Rattle.vt_walk_decisions.specs.declared.steps.Drawn.{Drawn}
use Rattle.vt_walk.specs.DrawnBy.{PictureDrawn, IsDrawnBySome, AnyRow}
use Rattle.vt_walk.specs.Fits.{WalkSetup}
use Rattle.vt_walk.specs.Runs.{WalkPass, IsWalkSetup, IsWalkRun, walk_pass_of, journal_after, recency_after}
use Rattle.vt_walk_decisions.specs.Tallies.{is_load, is_loss, is_eviction}
use Rattle.vt_walk.specs.Logs.{events_in, passes_of}
use Rattle.vt_walk.specs.Outlooks.{IsOutlook}
use Rattle.vt_walk_decisions.specs.Reported.{IsReported}
use Rattle.vt_walk_decisions.specs.Tallies.{with_pass}
use Rattle.vt_walk.specs.Tallies.{tally_of}
use Rattle.vt_walk.specs.WalkInputs.{given_of, input_scene, IsWalkInput}
use Rattle.vt_walk.specs.WalkSteps.{MayTakeStep, HasDrawnPass}
use Rattle.vt_walk.specs.Following.{HasRunStep}
use Rattle.vt_walk.specs.Walks.{setup_of_walk}
use Rattle.vt_walk.proofs.Agreeing.{root_last}
use Rattle.vt_walk.proofs.Asking.{count_lost, reads_more}
use Rattle.vt_walk.proofs.Bounds.{outcome_short, events_short, journal_short, kind_short, reads_short, events_in_chain}
use Rattle.vt_walk.proofs.Nexts.{journal_grown, comes_next}
use Rattle.vt_walk.proofs.Running.{run_kept, batch_is_lawful, batch_may_be_run, plan_most}
use Rattle.vt_walk.proofs.Showing.{self_number}
use Rattle.vt_walk.proofs.Wholeness.{mapped_some, pin_true}

root_mapped : (w : WalkSetup) (passes : List WalkPass) → IsWalkSetup w → IsWalkRun w passes → IsSome (newest (journal_after w passes) (root_of w.shape))
root_mapped w passes h run =
    let kept = run_kept w passes h run in
    let pages : pages_of (recency_after w passes).shape ≡ pages_of w.shape = ap pages_of kept.shape in
    let last = root_last w.shape h.limits in
    mapped_some (newest (journal_after w passes) (root_of w.shape)) (ap (nat_lt 0) (sym (kept.agrees (root_of w.shape)))
    ∙ kept.table.pinned_mapped (root_of w.shape) (omega (arith, last, pages))
    (pin_true (pages_of (recency_after w passes).shape) (root_of w.shape + (recency_after w passes).pinned)
    (omega (arith, last, pages, kept.pinned, h.some_pinned))))

prepare_of : (s : MachineState) (given : Setup) (js : List Change) (batch : List Planned) → s.setup ≡ given → s.journal ≡ js
    → IsSome (newest js (root_of given.shape))
    → IsBatchFor given.shape given.frames (newest js) batch → length batch ≤ given.crew.batch → length js ≤ last_start → MayPrepare s batch
prepare_of s given js batch setup journal root lawful few early = record {
  root = subst (λ (x : Setup × List Change). IsSome (newest x.1 (root_of x.0.shape))) (λ i. (sym setup i, sym journal i)) root;
  lawful = subst (λ (x : Setup × List Change). IsBatchFor x.0.shape x.0.frames (newest x.1) batch) (λ i. (sym setup i, sym journal i)) lawful;
  few = subst (λ (x : Setup). length batch ≤ x.crew.batch) (sym setup) few;
  early = subst (λ (x : List Change). length x ≤ last_start) (sym journal) early;
}

passes_short : (picture : ℕ) (run : List WalkPass) → length (passes_of picture run) ≤ length run
passes_short picture [] = omega arith
passes_short picture (p ∷ run) = keep (p.picture == picture) (passes_short picture run) where
  keep : (b : Bool) → length (passes_of picture run) ≤ length run → length (if b then p ∷ passes_of picture run else passes_of picture run) ≤ length (p ∷ run)
  keep true most = omega (arith, most)
  keep false most = omega (arith, most)

kinds_short : (kind : Event → Bool) (picture : ℕ) (run : List WalkPass) → events_in kind (passes_of picture run) ≤ events_in kind run
kinds_short kind picture [] = omega arith
kinds_short kind picture (p ∷ run) = keep (p.picture == picture) (kinds_short kind picture run) where
  keep : (b : Bool) → events_in kind (passes_of picture run) ≤ events_in kind run
      → events_in kind (if b then p ∷ passes_of picture run else passes_of picture run) ≤ events_in kind (p ∷ run)
  keep true most = omega (
    arith,
    most,
    sum_by-cons (λ (q : WalkPass). count_by kind q.events) p (passes_of picture run),
    sum_by-cons
        (λ (q : WalkPass). count_by kind q.events) p run,
  )
  keep false most = omega (arith, most, sum_by-cons (λ (q : WalkPass). count_by kind q.events) p run)

tally_grown : (p : WalkPass) (passes : List WalkPass) → with_pass p.events (tally_of passes) ≡ tally_of (p ∷ passes)
tally_grown p passes =
    let count : length passes + 1 ≡ length (p ∷ passes) = omega arith in
    let loaded : events_in is_load passes + count_by is_load p.events ≡ events_in is_load (p ∷ passes) = omega
    (arith, sum_by-cons (λ (q : WalkPass). count_by is_load q.events) p passes) in
    let lost : events_in is_loss passes + count_by is_loss p.events ≡ events_in is_loss (p ∷ passes) = omega
    (arith, sum_by-cons (λ (q : WalkPass). count_by is_loss q.events) p passes) in
    let evicted : events_in is_eviction passes + count_by is_eviction p.events ≡ events_in is_eviction (p ∷ passes) = omega
    (arith, sum_by-cons (λ (q : WalkPass). count_by is_eviction q.events) p passes) in
    λ i. record { passes = count i; loaded = loaded i; lost = lost i; evicted = evicted i }

-- the tally of a picture with one more pass
tally_more : (p : WalkPass) (run : List WalkPass) → with_pass p.events (tally_of (passes_of p.picture run)) ≡ tally_of (passes_of p.picture (p ∷ run))
tally_more p run =
    let newer : p ∷ passes_of p.picture run ≡ passes_of p.picture (p ∷ run) =
    ap (λ (b : Bool). if b then p ∷ passes_of p.picture run else passes_of p.picture run) (sym (self_number p.picture)) in
    tally_grown p (passes_of p.picture run) ∙ ap tally_of newer

wants_for : (s : Shape) (f g : ℕ → ℕ) (wants : List Wanted) → ((p : ℕ) → p < pages_of s → f p ≡ g p) → IsWants s f wants → IsWants s g wants
wants_for s f g wants same h = record {
  ordered = h.ordered;
  once = h.once;
  exact = λ w. (
    λ there. let x = (h.exact w).0 there in record { inside = x.inside; some = x.some; all = x.all ∙ same w.page x.inside },
    λ is. (h.exact w).1 (record { inside = is.inside; some = is.some; all = is.all ∙ sym (same w.page is.inside) }),
  );
}

-- a pass that was run was run, however its rows came about
pub ran_anyhow : (draws : Drawing) (drawn : RowRelation) (job : Job) (report : PassReport) (s t : MachineState)
    → Ran draws drawn job report s t → Ran draws AnyRow job report s t
ran_anyhow draws drawn job report s t ran = record {
  setup = ran.setup;
  outcome = ran.outcome;
  journal = ran.journal;
  rows = ran.rows;
  read = ran.read;
  picture = record {
    count = ran.picture.count;
    full = ran.picture.full;
    replayed = ran.picture.replayed;
    from_draws = λ y line at. tt;
    all_counts = ran.picture.all_counts;
    counts_are = ran.picture.counts_are;
  };
}

-- what a machine has drawn, some machine has
pub drawn_by_some : {M F Shared Loader Sampler Streamer : Type 0} (kind : MachineMeanings M F Shared Loader Sampler Streamer) (machine : M)
    (job : Job) (report : PassReport) (s : MachineState) → kind.is_idle machine
    → Ran kind.drawing (kind.drawn machine) job report s (kind.state machine)
    → IsDrawnBySome kind (kind.state machine) job.scene.path job.picture report.rows.elements
drawn_by_some kind machine job report s idle ran = record { machine = machine; idle = idle; state_is = refl; each = ran.picture.from_draws }

-- files that were read for a batch were read for a part of it
pub read_partly : (s : Shape) (d : ℕ) (batch : List Planned) (losses : List Bool) (old new : List FileState) → length losses ≡ length batch
    → AreReadFor s d batch losses old new → ArePartlyReadFor s d batch old new
read_partly s d batch losses old new each read = record {
  same = read.same;
  at_most_once = λ all_known at len. let once = (read.once all_known).asked at len in omega (arith, once);
  lost = lost_entries batch losses;
  failed = λ all_known at len. let once = (read.once all_known).failed at len in omega (arith, once);
  faults = subst (λ n. RoseTogetherBy n (counts_of old) (counts_of new)) (sym (count_lost batch losses each)) read.faults;
}

-- the counts of a step have room for a pass with these events
pub record HasRoom (step : WalkStep) (events : List Event) : Type 0 where
  pub passes : step.tally.passes + 1 < 2 ^ 32
  pub loaded : step.tally.loaded + length events < 2 ^ 64
  pub lost : step.tally.lost + length events < 2 ^ 64
  pub evicted : step.tally.evicted + length events < 2 ^ 64
  pub reads : step.reads + length step.batch.elements < 2 ^ 64

-- however the run of a pass ended, its files were read for a part of its batch at most
pub read_for_job : (draws : Drawing) (drawn : RowRelation) (idle : Type 0) (job : Job) (m after : MachineState)
    (result : Result PassReport NoMemory) → IsJobFor m.setup job → EndsPassRun draws drawn idle job result m after
    → ArePartlyReadFor job.scene.shape job.scene.depth job.batch m.files after.files
read_for_job draws drawn idle job m after (Ok report) is ends =
    read_partly job.scene.shape job.scene.depth job.batch report.losses.elements m.files after.files ends.ran.outcome.reported
    (subst (λ (x : Shape × ℕ). AreReadFor x.0 x.1 job.batch report.losses.elements m.files after.files) (λ i. (sym is.shape i, sym is.depth i))
    ends.ran.read)
read_for_job draws drawn idle job m after (Err refusal) is ends =
    subst (λ (x : Shape × ℕ). ArePartlyReadFor x.0 x.1 job.batch m.files after.files) (λ i. (sym is.shape i, sym is.depth i)) ends.broke.read

module _ (draws : Drawing)
    (t : WalkInput) (known : Option (List ℕ)) where
  pub may_prepare : (run : List WalkPass) (number : ℕ) (step : WalkStep) (m : MachineState) (v : RecencyView) → IsWalkInput t → number < 4294967296
      → MayTakeStep (given_of draws t known) run number step m v → MayPrepare m step.batch.elements
  may_prepare run number step m v input below may =
      let g = given_of draws t known in
      let h = may.given.setup in
      let kept = run_kept g.setup run h may.at_run.is_run in
      let short = journal_short g.setup run input.settings.crew.few_entries may.at_run.is_run in
      let planned : length step.batch.elements ≤ t.settings.crew.batch = omega (arith, ap length may.step.batch, plan_most g.setup run) in
      let early : length (journal_after g.setup run) ≤ last_start = omega (arith, short, may.step.number_is, below, h.enough_frames, h.most_frames) in
      prepare_of m (setup_of_walk g) (journal_after g.setup run) step.batch.elements may.at_run.setup may.at_run.journal (root_mapped g.setup run h may.at_run.is_run)
      (batch_may_be_run g.setup run step.batch.elements may.at_run.is_run kept may.step.batch) planned early

  pub recency_shape : (run : List WalkPass) (number : ℕ) (step : WalkStep) (m : MachineState) (v : RecencyView)
      → MayTakeStep (given_of draws t known) run number step m v → v.shape ≡ t.geometry.now
  recency_shape run number step m v may =
      ap (λ (x : RecencyView). x.shape) may.at_run.recency
      ∙ (run_kept (given_of draws t known).setup run may.given.setup may.at_run.is_run).shape

  pub turn_lawful : (run : List WalkPass) (number : ℕ) (step : WalkStep) (m : MachineState) (v : RecencyView)
      → MayTakeStep (given_of draws t known) run number step m v → IsLawfulBatch v step.batch.elements
  turn_lawful run number step m v may =
      let w = (given_of draws t known).setup in
      subst (λ (x : RecencyView). IsLawfulBatch x step.batch.elements) (sym may.at_run.recency)
      (batch_is_lawful w run step.batch.elements may.at_run.is_run (run_kept w run may.given.setup may.at_run.is_run) may.step.batch)

  pub has_room : (run : List WalkPass) (number : ℕ) (step : WalkStep) (m : MachineState) (v : RecencyView) (losses : List Bool) (events : List Event)
      → IsWalkInput t → number < 4294967296
      → MayTakeStep (given_of draws t known) run number step m v → IsOutcome step.batch.elements losses events → HasRoom step events
  has_room run number step m v losses events input below may outcome =
      let w = (given_of draws t known).setup in
      let h = may.given.setup in
      let few = input.settings.crew.few_entries in
      let is_run = may.at_run.is_run in
      let planned : length step.batch.elements ≤ most_entries = omega (arith, ap length may.step.batch, plan_most w run, few) in
      let short : length events ≤ 8192 = omega (arith, planned, outcome_short step.batch.elements losses events outcome) in
      let count : step.tally.passes ≡ length (passes_of step.picture run) = ap (λ (x : Tally). x.passes) may.step.tally in
      let loaded : step.tally.loaded ≡ events_in is_load (passes_of step.picture run) = ap (λ (x : Tally). x.loaded) may.step.tally in
      let lost : step.tally.lost ≡ events_in is_loss (passes_of step.picture run) = ap (λ (x : Tally). x.lost) may.step.tally in
      let evicted : step.tally.evicted ≡ events_in is_eviction (passes_of step.picture run) = ap (λ (x : Tally). x.evicted) may.step.tally in
      record {
        passes = omega (arith, count, passes_short step.picture run, may.step.number_is, below);
        loaded = omega (arith, loaded, short, kinds_short is_load step.picture run, kind_short w is_load run few is_run, may.step.number_is, below);
        lost = omega (arith, lost, short, kinds_short is_loss step.picture run, kind_short w is_loss run few is_run, may.step.number_is, below);
        evicted = omega (arith, evicted, short, kinds_short is_eviction step.picture run, kind_short w is_eviction run few is_run, may.step.number_is, below);
        reads = omega (arith, may.step.reads, planned, reads_short w run few is_run, may.step.number_is, below, h.enough_frames, h.most_frames);
      }

  -- the job of a step is one for its machine
  pub is_job : (run : List WalkPass) (number : ℕ) (step : WalkStep) (m : MachineState) (v : RecencyView) → MayTakeStep (given_of draws t known) run number step m v
      → IsJobFor m.setup (record { scene = input_scene t; picture = step.picture; batch = step.batch.elements })
  is_job run number step m v may =
      let job : Job = record { scene = input_scene t; picture = step.picture; batch = step.batch.elements } in
      subst (λ (x : Setup). IsJobFor x job) (sym may.at_run.setup)
      (record { shape = refl; depth = refl; width = refl; height = refl; picture = may.more })

  -- a pass that was run was read for
  pub read_at_most : (drawn : RowRelation) (run : List WalkPass) (number : ℕ) (step : WalkStep)
      (m after : MachineState) (v : RecencyView) (report : PassReport)
      → MayTakeStep (given_of draws t known) run number step m v
      → Ran draws drawn (record { scene = input_scene t; picture = step.picture; batch = step.batch.elements }) report m after
      → ArePartlyReadFor t.geometry.now t.depth step.batch.elements m.files after.files
  read_at_most drawn run number step m after v report may ran =
      read_partly t.geometry.now t.depth step.batch.elements report.losses.elements m.files after.files ran.outcome.reported
      (subst (λ (x : Setup). AreReadFor x.shape x.depth step.batch.elements report.losses.elements m.files after.files) may.at_run.setup ran.read)

  -- so was one that was refused memory
  pub read_broken : (run : List WalkPass) (number : ℕ) (step : WalkStep) (m after : MachineState) (v : RecencyView)
      → MayTakeStep (given_of draws t known) run number step m v
      → Broke (record { scene = input_scene t; picture = step.picture; batch = step.batch.elements }) m after
      → ArePartlyReadFor t.geometry.now t.depth step.batch.elements m.files after.files
  read_broken run number step m after v may broke =
      subst (λ (x : Setup). ArePartlyReadFor x.shape x.depth step.batch.elements m.files after.files) may.at_run.setup broke.read

  pub has_drawn : (drawn : PictureDrawn) (run : List WalkPass) (number start : ℕ) (step : WalkStep)
      (m after : MachineState)
      (v v' : RecencyView) (counts : List ℕ) (report : PassReport) (o : NextPlan) (d : Drawn)
      → HasRunStep drawn (given_of draws t known) run number step start report m after v
      → counts ≡ after.counts
      → IsOutlook t.geometry.now (slice_index counts) t.settings.crew.batch v step.batch.elements report.losses.elements v' o
      → IsReported number step start report o d → HasDrawnPass drawn
      (given_of draws t known) run step m after v' d
  has_drawn drawn run number start step m after v v' counts report o d made counts_are_its next_plan reported =
      let may = made.may in
      let ran = made.ran in
      let g = given_of draws t known in
      let job : Job = record { scene = input_scene t; picture = step.picture; batch = step.batch.elements } in
      let setup : after.setup ≡ setup_of_walk g = ran.setup ∙ may.at_run.setup in
      let pages : pages_of t.geometry.now ≡ pages_of after.setup.shape = ap (λ (x : Setup). pages_of x.shape) (sym setup) in
      let same : (p : ℕ) → p < pages_of t.geometry.now → slice_index counts p ≡ draws.needs (input_scene t) step.picture p =
      λ p inside. ap (λ (x : List ℕ). slice_index x p) counts_are_its ∙ ran.picture.counts_are p (omega (arith, inside, pages)) in
      let wanted = wants_for t.geometry.now (slice_index counts) (draws.needs (input_scene t) step.picture) next_plan.wants same next_plan.wanted in
      let settles = subst (λ (x : RecencyView). IsSettledByReads x (read_entries step.batch.elements report.losses.elements) next_plan.settled) may.at_run.recency
      next_plan.settles in
      let pass : WalkPass = walk_pass_of job report next_plan.wants next_plan.settled in
      let next = comes_next draws AnyRow g.setup run job report next_plan.wants next_plan.settled m after ran refl
      (ap (λ (x : Setup). x.crew.samplers) (sym may.at_run.setup))
      (ap (λ (x : Setup). x.height) (sym may.at_run.setup)) may.at_run.journal may.step.step may.more may.step.batch wanted settles in
      record {
        pass = walk_pass_of job report next_plan.wants next_plan.settled;
        next = next;
        picture = refl;
        batch = refl;
        at_run = record {
          is_run = (may.at_run.is_run, next);
          setup = setup;
          journal = journal_grown draws AnyRow g.setup run job report next_plan.wants next_plan.settled m after ran may.at_run.journal;
          recency = next_plan.after_is;
        };
        read = subst (λ (x : Setup). AreReadFor x.shape x.depth step.batch.elements report.losses.elements m.files after.files) may.at_run.setup ran.read;
        has_run = record { before = m; report = report; setup = may.at_run.setup; journal = may.at_run.journal; ran = ran; by = made.by; rows_are = refl };
        text = reported.text ∙ (λ i. record {
          pass = may.step.number_is i;
          picture = step.picture;
          start = (made.start_is ∙ ap length may.at_run.journal) i;
          events = report.events.elements;
          rows = report.rows.elements;
        });
        passed = record {
          picture = reported.picture;
          inside = may.more;
          loads_nothing = reported.loads_nothing;
          lost = reported.lost;
          wanted = ap (λ (x : NextPlan). x.wanted) reported.next_plan ∙ next_plan.count;
          needed = ap (λ (x : NextPlan). x.needed) reported.next_plan ∙ next_plan.needed_are
              ∙ ap (λ (x : RecencyView). pages_needed x next_plan.wants) next_plan.after_is;
          plan = ap (λ (x : NextPlan). x.plan.elements) reported.next_plan ∙ next_plan.plan_is
              ∙ ap (λ (x : RecencyView). plan_of x next_plan.wants t.settings.crew.batch) next_plan.after_is;
          tally = reported.tally ∙ ap (with_pass report.events.elements) may.step.tally ∙ tally_more (walk_pass_of job report next_plan.wants next_plan.settled) run;
          reads = reported.reads ∙ ap (λ n. n + length step.batch.elements) may.step.reads
              ∙ sym (reads_more g.setup (walk_pass_of job report next_plan.wants next_plan.settled) run);
        };
      }

  -- the events that its text tells are in the chain
  pub journaled_in_chain : (drawn : PictureDrawn) (run : List WalkPass) (number : ℕ) (step : WalkStep) (m after : MachineState)
      (v v' : RecencyView) (d : Drawn)
      → MayTakeStep (given_of draws t known) run number step m v
      → HasDrawnPass drawn (given_of draws t known) run step m after v' d
      → All (IsEventInChain t.geometry.now) d.text.events.elements
  journaled_in_chain drawn run number step m after v v' d may has =
      subst (All (IsEventInChain t.geometry.now)) (sym (ap (λ (x : Pass). x.events) has.text))
      (events_in_chain (given_of draws t known).setup run has.pass may.given.setup may.at_run.is_run has.next)

  -- there is room for the versions that its text tells
  pub journaled_have_room : (drawn : PictureDrawn) (run : List WalkPass) (number : ℕ) (step : WalkStep) (m after : MachineState)
      (v v' : RecencyView) (d : Drawn)
      → IsWalkInput t → number < 4294967296 → MayTakeStep (given_of draws t known) run number step m v
      → HasDrawnPass drawn (given_of draws t known) run step m after v' d
      → d.text.start + length d.text.events.elements ≤ most_versions
  journaled_have_room drawn run number step m after v v' d input below may has =
      let w = (given_of draws t known).setup in
      let h = may.given.setup in
      let few = input.settings.crew.few_entries in
      let start : d.text.start ≡ length (journal_after w run) = ap (λ (x : Pass). x.start) has.text in
      let count : length d.text.events.elements ≡ length has.pass.events = ap (λ (x : Pass). length x.events) has.text in
      omega (
        arith,
        start,
        count,
        events_short w run has.pass few has.next,
        journal_short w run few may.at_run.is_run,
        may.step.number_is,
        below,
        h.enough_frames,
        h.most_frames,
      )
