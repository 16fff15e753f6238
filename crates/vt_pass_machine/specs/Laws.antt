-- What the workers of a machine did is a pass, once they are moved back.
use Rattle.std.specs.Prelude.{◌≡◌, ℕ, Option, List, length, reverse, Result, Ok, Err, OnErr, IfOk}
use Rattle.std.proofs.Common.{subst, sym, ap, ◌∙◌}
use Rattle.std.specs.Arc.{arc_value}
use Rattle.vt_outside.specs.declared.outside.File.{Ghosts as FileMeanings}
use Rattle.vt_outside.specs.declared.answers.NoMemory.{NoMemory}
use Rattle.vt_load.specs.StoreViews.{StoreView}
use Rattle.vt_pass_pool.specs.PicturesTypes.filters.Filter.{Ghosts as FilterMeanings}
use Rattle.vt_pass_pool.specs.Samplers.{row_length}
use Rattle.vt_load.specs.declared.queued.Queues.{Queues}
use Rattle.vt_load.specs.QueuedLoaders.{QueuedView, HasLoaded, stores_of}
use Rattle.vt_loading.specs.Jobs.{Job}
use Rattle.vt_loading.specs.All.{AllDid}
use Rattle.vt_loading.specs.MachineTypes.crew.PassReport.{PassReport}
use Rattle.vt_loading.specs.Drawings.{Drawing, RowRelation}
use Rattle.vt_loading.specs.Machines.{MachineState, files_of, known_bytes}
use Rattle.vt_loading.specs.Passes.{IsJobFor, IsUntouched, Ran, Broke, EndsPassRun}
use Rattle.vt_loading.specs.LoaderPools.{LoaderPoolView, AreLoadersOut, stream_before}
use Rattle.vt_loading.specs.StreamBacks.{round, stream_begun, stream_back}
use Rattle.vt_pass_pool.specs.PageTableTypes.table.PageTable.{Ghosts as TableMeanings}
use Rattle.vt_pass_pool.specs.SchedulesTypes.schedule.Schedule.{Ghosts as ScheduleMeanings}
use Rattle.vt_pass_pool.specs.PassRowsTypes.sampler.PassSampler.{PassSampler}
use Rattle.vt_pass_pool.specs.PassSamplers.{HasDrawn}
use Rattle.vt_pass_pool.specs.declared.pool.PassPool.{PassPool}
use Rattle.vt_pass_pool.specs.Pools.{IsReadyPool}
use Rattle.vt_pass_pool.specs.Ended.{MayEnd}
use Rattle.vt_pass_pool.specs.declared.shared.OwnParts.{OwnParts}
use Rattle.vt_pass_pool.specs.declared.shared.PassShared.{PassShared}
use Rattle.vt_pass_pool.specs.declared.shared.PassStreamer.{PassStreamer}
use Rattle.vt_pass_pool.specs.PassTasks.{HasStreamed}
use Rattle.vt_pass_machine.specs.declared.machine.Machine.{Machine}
use Rattle.vt_pass_machine.specs.Machines.{setup_by, state_by, state_of, journal_by, frames_by, drawing_by_turns, drawn_by, held_from, held_by, IsFit, IsReady, IsReadyBy, IsIdleBy, IsDetached, Begun, MayFinish, MayFinishOut, PassEnds, Finishes}

-- what was left untouched is the same but for the rows and the counts
same_but_picture : (a b : MachineState) → IsUntouched a b → b ≡ record a { rows = b.rows; counts = b.counts }
same_but_picture a b h = λ i. record { setup = h.setup i; files = h.files i; journal = h.journal i; rows = b.rows; counts = b.counts }

-- how a pass ends does not depend on the rows and counts before it
module _ (draws : Drawing) (drawn : RowRelation) (job : Job) (a b c : MachineState) (h : IsUntouched a b) where
  ran_after : (report : PassReport) → Ran draws drawn job report b c → Ran draws drawn job report a c
  ran_after report ran =
      let moved = subst (λ s. Ran draws drawn job report s c) (same_but_picture a b h) ran in
      record {
        setup = moved.setup;
        outcome = moved.outcome;
        journal = moved.journal;
        rows = moved.rows;
        read = moved.read;
        picture = moved.picture;
      }

  broke_after : Broke job b c → Broke job a c
  broke_after broke =
      let moved = subst (λ s. Broke job s c) (same_but_picture a b h) broke in
      record { setup = moved.setup; read = moved.read }

  ends_after : (idle : Type 0) (result : Result PassReport NoMemory) → EndsPassRun draws drawn idle job result b c → EndsPassRun draws drawn idle job result a c
  ends_after idle result e = record { ran = ran_if result e.ran; goes_on = e.goes_on; broke = broke_if result e.broke } where
    ran_if : (r : Result PassReport NoMemory) → IfOk r (λ report. Ran draws drawn job report b c) → IfOk r (λ report. Ran draws drawn job report a c)
    ran_if (Ok report) ran = ran_after report ran
    ran_if (Err refusal) none = none

    broke_if : (r : Result PassReport NoMemory) → OnErr r (Broke job b c) → OnErr r (Broke job a c)
    broke_if (Ok report) none = none
    broke_if (Err refusal) broke = broke_after broke

-- the loaders were moved out of a pool whose streamer is there
module _ {F T H R W : Type 0} (g : FileMeanings F) (table : TableMeanings T H R W) (shared : H) (q : Queues) (was b : PassStreamer T H R W)
    (k l : LoaderPoolView F) (a : List (QueuedView F)) (out : AreLoadersOut g q k l was.answers b.answers a)
    (streamer_is : b ≡ record was { answers = b.answers }) (fit : IsFit g table shared was k) where
  -- the streamer fits the pool before the loaders were made of its stores
  fit_back : IsFit g table shared b (stream_before l (stream_begun g was.answers b.answers k a))
  unfolding stream_begun round
  fit_back = subst (λ (x : LoaderPoolView F). IsFit g table shared b (record x { stores = reverse (stores_of a) })) (sym out.rest)
      (subst (λ (x : PassStreamer T H R W × List (StoreView F)). IsFit g table shared x.0 (record k { stores = x.1; round = l.round }))
      (λ i. (sym streamer_is i, sym out.dealt.stores_are i)) (record {
        of = fit.of;
        shape = fit.shape;
        geometry = fit.geometry;
        depth = fit.depth;
        limits = fit.limits;
        stored = fit.stored;
      }))

-- the samplers were moved out of a pool
module _ {F T S P H R W B O M : Type 0} (g : FileMeanings F) (table : TableMeanings T H R W) (schedule : ScheduleMeanings S B O M)
    (filter : FilterMeanings P) (shared : H) (rows : B) (q : Queues) (was b : PassStreamer T H R W) (k : LoaderPoolView F) (r s : PassPool T S H R W B O M)
    (job : Job) (e f : List (PassSampler T S H R W B O M)) (streamer_is : b ≡ record was { answers = b.answers })
    (ready : IsReady g table schedule shared rows q was k r job.batch) (frames : ℕ) (job_is : IsJobFor (setup_by g frames k r) job)
    (samplers_are : e ≡ r.samplers.elements) (pool_is : s ≡ record r { samplers = s.samplers }) (number : length f ≡ length e)
    (did_draw : AllDid (HasDrawn table schedule filter shared rows job.scene.shape job.scene.depth job.scene.path job.picture job.scene.path.height
    (row_length job.scene.depth job.scene.path.width)) e f) where
  draw_back : MayEnd table schedule filter shared rows s job.scene job.picture (length (table.journal b.writer)) e f
  draw_back = subst (λ (x : PassPool T S H R W B O M × PassStreamer T H R W).
      MayEnd table schedule filter shared rows x.0 job.scene job.picture (length (table.journal x.1.writer)) e f)
      (λ i. (sym pool_is i, sym streamer_is i)) (record {
        ready = subst (λ (x : List (PassSampler T S H R W B O M)).
            IsReadyPool table schedule shared rows (length (table.journal was.writer)) (record r { samplers = s.samplers }) x)
            (sym samplers_are) (record {
              pool = record {
                some = ready.samplers.pool.some;
                few = ready.samplers.pool.few;
                depth = ready.samplers.pool.depth;
                sides = ready.samplers.pool.sides;
                samplers_are = ready.samplers.pool.samplers_are;
                counts = ready.samplers.pool.counts;
                number = ready.samplers.pool.number;
                no_lines = ready.samplers.pool.no_lines;
              };
              ready = ready.samplers.ready;
              home_is = ready.samplers.home_is;
              dealt = ready.samplers.dealt;
              line_room = ready.samplers.line_room;
            });
        shape = job_is.shape ∙ sym ready.agree.shape;
        depth = job_is.depth ∙ sym ready.agree.depth;
        width = job_is.width;
        height = job_is.height;
        number = number;
        drawn = did_draw;
      })

module _ {F T S P H R W B O M : Type 0} (g : FileMeanings F) (table : TableMeanings T H R W) (schedule : ScheduleMeanings S B O M)
    (filter : FilterMeanings P) (job : Job) (m n : Machine F T S P H R W B O M) (a c : List (QueuedView F)) (e f : List (PassSampler T S H R W B O M))
    (b d : PassStreamer T H R W)
    (ready : IsReadyBy g table schedule (arc_value m.shared).parts.table (arc_value m.shared).parts.rows (arc_value m.shared).parts.queues m.streamer m.streams m.pool job.batch)
    (job_is : IsJobFor (state_of g table m).setup job) (detached : IsDetached g m n a e b) (number : length c ≡ length a) (number_f : length f ≡ length e)
    (did_load : AllDid (HasLoaded g (arc_value n.shared).parts.queues) a c)
    (did_draw : AllDid (HasDrawn table schedule filter (arc_value n.shared).parts.table (arc_value n.shared).parts.rows job.scene.shape job.scene.depth job.scene.path job.picture
    job.scene.path.height (row_length job.scene.depth job.scene.path.width)) e f)
    (did_stream : HasStreamed table (arc_value n.shared).parts.table (arc_value n.shared).parts.queues job.batch b d) where
  was_ready : IsReady g table schedule (arc_value m.shared).parts.table (arc_value m.shared).parts.rows (arc_value m.shared).parts.queues detached.was m.streams m.pool job.batch
  was_ready = subst (λ (x : Option (PassStreamer T H R W)).
      IsReadyBy g table schedule (arc_value m.shared).parts.table (arc_value m.shared).parts.rows (arc_value m.shared).parts.queues x m.streams m.pool job.batch) detached.there ready

  has_loaded : AllDid (HasLoaded g (arc_value m.shared).parts.queues) a c
  has_loaded = subst (λ (x : PassShared (OwnParts H B T S P)). AllDid (HasLoaded g x.parts.queues) a c) detached.shared did_load

  have_drawn : AllDid (HasDrawn table schedule filter (arc_value m.shared).parts.table (arc_value m.shared).parts.rows job.scene.shape job.scene.depth job.scene.path job.picture
      job.scene.path.height (row_length job.scene.depth job.scene.path.width)) e f
  have_drawn = subst (λ (x : PassShared (OwnParts H B T S P)). AllDid (HasDrawn table schedule filter x.parts.table x.parts.rows job.scene.shape job.scene.depth
      job.scene.path job.picture job.scene.path.height (row_length job.scene.depth job.scene.path.width)) e f) detached.shared did_draw

  has_fed : HasStreamed table (arc_value m.shared).parts.table (arc_value m.shared).parts.queues job.batch b d
  has_fed = subst (λ (x : PassShared (OwnParts H B T S P)). HasStreamed table x.parts.table x.parts.queues job.batch b d) detached.shared did_stream

  -- how the work began
  z : Begun F T S H R W B O M
  z = record {
    stream = stream_begun g detached.was.answers b.answers m.streams a;
    streamer = b;
    samplers = e;
  }

  -- it leaves what may be moved back
  may_finish : MayFinish g table schedule filter (arc_value n.shared).parts.table (arc_value n.shared).parts.rows (arc_value n.shared).parts.queues n.streams n.pool job c f d z
  unfolding z
  may_finish = subst (λ (x : PassShared (OwnParts H B T S P)). MayFinish g table schedule filter x.parts.table x.parts.rows x.parts.queues n.streams n.pool job c f d z)
      (sym detached.shared) (record {
        stream = stream_back g (arc_value m.shared).parts.queues detached.was.answers b.answers d.answers m.streams n.streams job.batch detached.was.report d.report a c
            detached.loaders_out was_ready.asked number has_loaded has_fed.took has_fed.all has_fed.losses has_fed.answers;
        fit = fit_back g table (arc_value m.shared).parts.table (arc_value m.shared).parts.queues detached.was b m.streams n.streams a detached.loaders_out detached.streamer_is was_ready.fit;
        no_events = ap (λ (x : PassStreamer T H R W). x.report.events.elements) detached.streamer_is ∙ was_ready.asked.no_events;
        fed = has_fed;
        draw = draw_back g table schedule filter (arc_value m.shared).parts.table (arc_value m.shared).parts.rows (arc_value m.shared).parts.queues detached.was b m.streams m.pool n.pool job e f
            detached.streamer_is was_ready (frames_by table m.streamer) job_is detached.samplers_are detached.pool number_f have_drawn;
        agree = record {
          shape = ap (λ (x : PassPool T S H R W B O M). x.geometry) detached.pool ∙ was_ready.agree.shape
              ∙ sym (ap (λ (x : LoaderPoolView F). x.shape) detached.loaders_out.rest);
          depth = ap (λ (x : PassPool T S H R W B O M). x.depth) detached.pool ∙ was_ready.agree.depth
              ∙ sym (ap (λ (x : LoaderPoolView F). x.depth) detached.loaders_out.rest);
          count = ap (λ (x : PassPool T S H R W B O M). x.count) detached.pool ∙ was_ready.agree.count
              ∙ sym (ap (λ (x : LoaderPoolView F). x.crew.samplers) detached.loaders_out.rest);
        };
      })

  may_finish_out : MayFinishOut g table schedule filter n job c f d z
  may_finish_out = record { gone = detached.gone; may = may_finish }

  pub come_back : (y : Begun F T S H R W B O M) × MayFinishOut g table schedule filter n job c f d y
  come_back = (z, may_finish_out)

  -- and it began with what the machine was
  before : IsUntouched (state_of g table m) (state_by g (table.frame_count b.writer) (table.journal b.writer) (stream_before n.streams z.stream) n.pool)
  unfolding z stream_begun round
  before =
      let out = detached.loaders_out in
      let stores = out.dealt.stores_are in
      record {
        setup = λ i. record {
          shape = (ap (λ (x : LoaderPoolView F). x.shape) out.rest) i;
          depth = (ap (λ (x : LoaderPoolView F). x.depth) out.rest) i;
          width = (ap (λ (x : PassPool T S H R W B O M). x.width) detached.pool) i;
          height = (ap (λ (x : PassPool T S H R W B O M). x.height) detached.pool) i;
          frames = (ap (λ (x : PassStreamer T H R W). table.frame_count x.writer) detached.streamer_is ∙ sym (ap (frames_by table) detached.there)) i;
          crew = (ap (λ (x : LoaderPoolView F). x.crew) out.rest) i;
          bytes = known_bytes g (stores i);
        };
        files = ap (files_of g) stores;
        journal = ap (λ (x : PassStreamer T H R W). table.journal x.writer) detached.streamer_is ∙ sym (ap (journal_by table) detached.there);
      }

  -- and then the machine has run the pass, and its rows came in it
  pub has_ended : (p : Machine F T S P H R W B O M) (r : Result PassReport NoMemory) → Finishes g table schedule filter job r n c f d p
      → PassEnds g table schedule filter job r (state_of g table m) p
      × IfOk r (λ report. held_by table filter m.streamer m.pool.samplers.elements p.streamer p.pool job report.rows.elements)
  unfolding z
  has_ended p r done = let both = done z may_finish_out in (
    ends_after (drawing_by_turns filter schedule.DEALT) (drawn_by table filter schedule.DEALT p.pool p.streamer) job (state_of g table m)
        (state_by g (table.frame_count b.writer) (table.journal b.writer) (stream_before n.streams z.stream) n.pool) (state_of g table p) before
        (IsIdleBy g table (arc_value p.shared).parts.table p.streamer p.streams p.pool) r both.0,
    subst (λ (x : Option (PassStreamer T H R W)). IfOk r (λ report.
        held_by table filter x m.pool.samplers.elements p.streamer p.pool job report.rows.elements)) (sym detached.there)
        (subst (λ (x : W × List (PassSampler T S H R W B O M)). IfOk r (λ report.
        held_from table filter x.0 x.1 p.streamer p.pool job report.rows.elements))
        (λ i. (ap (λ (x : PassStreamer T H R W). x.writer) detached.streamer_is i, detached.samplers_are i)) both.1),
  )
