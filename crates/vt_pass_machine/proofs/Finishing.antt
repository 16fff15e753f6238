-- A pass of the machine, by what its loaders, its streamer and its samplers left.
use Rattle.std.proofs.Common.{◌≡◌, ℕ, ◌<◌, ◌++◌, false, Bool, List, [], length, get_or, Option, Some, Result, Ok, Err, sym, ap, ◌∙◌, subst, arith}
use Rattle.std.specs.Prelude.{slice_get, All, IfOk, OnOk, IfSome}
use Rattle.std.proofs.lemmas.List.{length-map}
use Rattle.std.proofs.lemmas.List.Elements.{All-map}
use Rattle.std.proofs.lemmas.Option.{slice_get-get_or}
use Rattle.vt_pass_pool.specs.Dealing.{sampler_of}
use Rattle.vt_outside.specs.declared.outside.File.{Ghosts as FileMeanings}
use Rattle.vt_outside.specs.declared.answers.NoMemory.{NoMemory}
use Rattle.vt_load.specs.Shape.{Shape}
use Rattle.vt_pass_pool.specs.Pages.{pages_of, IsWithinLimits}
use Rattle.vt_load.specs.Format.{stored}
use Rattle.vt_load.specs.StoreViews.{IsStoreIfKnown}
use Rattle.vt_pass_pool.specs.JournalTypes.changes.Change.{Change}
use Rattle.vt_pass_pool.specs.JournalTypes.changes.Event.{Event}
use Rattle.vt_pass_pool.specs.JournalTypes.changes.RowLine.{RowLine}
use Rattle.vt_pass_pool.specs.JournalText.{changes_of}
use Rattle.vt_pass_pool.specs.PicturesTypes.filters.Filter.{Ghosts as FilterMeanings}
use Rattle.vt_pass_pool.specs.Evidence.{AreShown}
use Rattle.vt_pass_pool.specs.FilterLaws.{IsUnder}
use Rattle.vt_pass_pool.specs.Replays.{IsFull, AreReplayed}
use Rattle.vt_pass_pool.specs.Shots.{shot_row}
use Rattle.vt_load.specs.declared.queued.Queues.{Queues}
use Rattle.vt_load.specs.QueuedLoaders.{QueuedView}
use Rattle.vt_loading.specs.Jobs.{Job}
use Rattle.vt_loading.specs.MachineTypes.crew.PassReport.{PassReport}
use Rattle.vt_loading.specs.Drawings.{Drawing, RowRelation}
use Rattle.vt_loading.specs.Machines.{MachineState, files_of, known_bytes}
use Rattle.vt_loading.specs.Outcomes.{IsOutcome}
use Rattle.vt_loading.specs.RowOrders.{AreRowsInOrder}
use Rattle.vt_loading.specs.Requests.{AreReadFor}
use Rattle.vt_loading.specs.Passes.{IsPictured, Ran, Broke, EndsPassRun}
use Rattle.vt_loading.specs.BatchRounds.{result_events}
use Rattle.vt_loading.specs.LoaderPools.{LoaderPoolView, stream_before, HasEndedStream}
use Rattle.vt_pass_pool.specs.PageTableTypes.table.PageTable.{Ghosts as TableMeanings}
use Rattle.vt_pass_pool.specs.Fills.{AreStoredPages}
use Rattle.vt_pass_pool.specs.SchedulesTypes.bag.RowJob.{RowJob}
use Rattle.vt_pass_pool.specs.SchedulesTypes.schedule.Schedule.{Ghosts as ScheduleMeanings}
use Rattle.vt_pass_pool.specs.PassRowsTypes.sampler.PassSampler.{PassSampler}
use Rattle.vt_pass_pool.specs.Streamed.{area, FillsOf, HasStreamedAll}
use Rattle.vt_pass_pool.specs.declared.pool.PassPool.{PassPool}
use Rattle.vt_pass_pool.specs.Placing.{line_of, bytes_of}
use Rattle.vt_pass_pool.specs.Stills.{IsStill}
use Rattle.vt_pass_pool.specs.Ended.{WasDrawn, IsHeldRow, HasEnded}
use Rattle.vt_pass_pool.specs.declared.shared.PassStreamer.{PassStreamer}
use Rattle.vt_pass_machine.specs.Machines.{state_by, drawing_by_turns, drawn_by, held_from, IsSound, Agree, IsIdle, IsIdleBy, Begun, MayFinish, journal_by, frames_by}
use Rattle.vt_pass_machine.proofs.Listed.{made_of, bytes_at}
use Rattle.vt_pass_machine.proofs.Fills.{results_stored}
use Rattle.vt_pass_machine.proofs.Replaying.{picture_replayed}
use Rattle.vt_pass_machine.proofs.PartlyRead.{read_partly}

module _ {F T S P H R W B O M : Type 0} (g : FileMeanings F) (table : TableMeanings T H R W) (schedule : ScheduleMeanings S B O M)
    (filter : FilterMeanings P) (law : IsUnder filter.shown filter.under) (shared : H) (rows : B) (q : Queues) (k l : LoaderPoolView F)
    (r s : PassPool T S H R W B O M) (job : Job) (c : List (QueuedView F)) (f : List (PassSampler T S H R W B O M)) (t u : PassStreamer T H R W)
    (b : Begun F T S H R W B O M) (may : MayFinish g table schedule filter shared rows q k r job c f t b)
    (ended : HasEndedStream g k l job.batch t.report b.stream) (still : IsStill table shared t.writer u.writer)
    (own : u ≡ record t { writer = u.writer; answers = u.answers; report = u.report })
    (pool : s ≡ record r { home = s.home; samplers = s.samplers; drawn = s.drawn; lines = s.lines; counts = s.counts }) where
  abbrev start : List Change
  start = table.journal b.streamer.writer

  abbrev w : W
  w = u.writer

  same_shape : l.shape ≡ k.shape
  same_shape = ap (λ (x : LoaderPoolView F). x.shape) ended.rest

  same_depth : l.depth ≡ k.depth
  same_depth = ap (λ (x : LoaderPoolView F). x.depth) ended.rest

  same_samplers : l.crew.samplers ≡ k.crew.samplers
  same_samplers = ap (λ (x : LoaderPoolView F). x.crew.samplers) ended.rest

  geometry_is : s.geometry ≡ r.geometry
  geometry_is = ap (λ (x : PassPool T S H R W B O M). x.geometry) pool

  depth_is : s.depth ≡ r.depth
  depth_is = ap (λ (x : PassPool T S H R W B O M). x.depth) pool

  count_is : s.count ≡ r.count
  count_is = ap (λ (x : PassPool T S H R W B O M). x.count) pool

  height_is : s.height ≡ r.height
  height_is = ap (λ (x : PassPool T S H R W B O M). x.height) pool

  width_is : s.width ≡ r.width
  width_is = ap (λ (x : PassPool T S H R W B O M). x.width) pool

  agree : Agree l s
  agree = record {
    shape = geometry_is ∙ may.agree.shape ∙ sym same_shape;
    depth = depth_is ∙ may.agree.depth ∙ sym same_depth;
    count = count_is ∙ may.agree.count ∙ sym same_samplers;
  }

  frames_are : table.frame_count w ≡ table.frame_count b.streamer.writer
  frames_are = still.frames ∙ may.fed.frames

  -- memory was refused: the files were read for the batch all the same
  refused : Broke job (state_by g (table.frame_count b.streamer.writer) start (stream_before k b.stream) r)
      (state_by g (table.frame_count w) (table.journal w) l s)
  refused = record {
    setup = λ i. record {
      shape = same_shape i;
      depth = same_depth i;
      width = width_is i;
      height = height_is i;
      frames = frames_are i;
      crew = (ap (λ (x : LoaderPoolView F). x.crew) ended.rest) i;
      bytes = ended.known i;
    };
    read = read_partly k.shape k.depth job.batch t.report.losses.elements _ _ (may.stream.losses.reported) ended.read;
  }

  -- it was told what was drawn
  module _ (came_within : (m n v w : W) (number : ℕ) (reader home : R) → table.later m n → table.later v w → table.came n v number reader home
      → table.came m w number reader home) (later_none : (v : W) → table.later v v) (report : PassReport) (went_on : t.refused ≡ false)
      (drawn : HasEnded table filter schedule.DEALT r s job.scene job.picture (length start) t.writer w b.samplers report.rows.elements)
      (sound : IsSound table w) (events : report.events.elements ≡ t.report.events.elements)
      (losses : report.losses.elements ≡ t.report.losses.elements) where
    streamed : HasStreamedAll table b.streamer.depth job.batch t.report.results.elements b.streamer.writer t.writer
    streamed = may.fed.streamed went_on

    events_are : report.events.elements ≡ result_events job.batch t.report.results.elements
    events_are = events ∙ may.fed.events went_on
        ∙ ap (λ (es : List Event). es ++ result_events job.batch t.report.results.elements) may.no_events

    journal_is : table.journal w ≡ start ++ changes_of report.events.elements
    journal_is = still.journal ∙ streamed.journal ∙ ap (λ (es : List Event). start ++ changes_of es) (sym events_are)

    -- the pages were filled with tiles of the store
    stored_after : AreStoredPages l.shape l.depth (known_bytes g l.stores) (table.is_filled w)
    stored_after =
        let results = t.report.results.elements in
        let old : AreStoredPages k.shape k.depth (known_bytes g l.stores) (table.is_filled b.streamer.writer) =
        subst (λ (o : Option (List ℕ)). AreStoredPages k.shape k.depth o (table.is_filled b.streamer.writer)) (sym ended.known) may.fit.stored in
        let fills = subst (λ (z : ℕ × Shape). FillsOf z.0 (area z.1) job.batch results (table.is_filled b.streamer.writer) (table.is_filled t.writer))
        (λ i. (may.fit.depth i, may.fit.shape i)) streamed.fills in
        let new = results_stored k.shape k.depth (known_bytes g l.stores) (table.is_filled b.streamer.writer) (table.is_filled t.writer) old job.batch
        results fills ended.entries ended.good in
        let now : AreStoredPages k.shape k.depth (known_bytes g l.stores) (table.is_filled w) = λ page words is. new page words (still.fills page words is) in
        subst (λ (z : Shape × ℕ). AreStoredPages z.0 z.1 (known_bytes g l.stores) (table.is_filled w)) (λ i. (sym same_shape i, sym same_depth i)) now

    -- the machine can go on
    goes_on : IsIdle g table shared u l s
    goes_on = record {
      fit = record {
        of = still.of;
        shape = still.shape ∙ may.fed.shape ∙ may.fit.shape ∙ sym same_shape;
        geometry = ap (λ (x : PassStreamer T H R W). x.geometry) own ∙ may.fed.geometry ∙ may.fit.geometry ∙ sym same_shape;
        depth = ap (λ (x : PassStreamer T H R W). x.depth) own ∙ may.fed.depth ∙ may.fit.depth ∙ sym same_depth;
        limits = subst IsWithinLimits (sym same_shape) may.fit.limits;
        stored = stored_after;
      };
      pool = ended.pool;
      samplers = drawn.idle;
      agree = agree;
    }

    -- a line is that of the row at its place
    line_there : (y : ℕ) (line : RowLine) → slice_get report.rows.elements y ≡ Some line
        → (j : RowJob) × (slice_get s.drawn.elements y ≡ Some j) × (line_of j ≡ line)
    line_there y line is = made_of line_of s.drawn.elements y line (sym (ap (λ (x : List RowLine). slice_get x y) drawn.lines_are) ∙ is)

    in_order : AreRowsInOrder schedule.DEALT k.crew.samplers r.height (length start) (length (table.journal w)) report.rows.elements
    in_order = record {
      of_picture = record {
        count = ap length drawn.lines_are ∙ length-map s.drawn.elements line_of ∙ drawn.idle.pool.number ∙ height_is;
        each = λ y line is.
            let x = line_there y line is in
            let its = drawn.each y x.0 x.1 in
            let place = (drawn.idle.rows.each y x.0 x.1).0 in
            record {
              place = sym (ap (λ (z : RowLine). z.row) x.2) ∙ place;
              sampler = (let a = ap (λ (z : RowLine). z.sampler) x.2 in let n = its.among in let few = may.draw.ready.pool.few in
                  omega (arith, a, n, few));
              from = (let a = ap (λ (z : RowLine). z.version) x.2 in let n = its.from in omega (arith, a, n));
              to = (let a = ap (λ (z : RowLine). z.version) x.2 in let n = its.to in omega (arith, a, n));
            };
        rise = λ i j before line below at_i at_j same.
            let x = line_there i before at_i in
            let y = line_there j line at_j in
            let v = ap (λ (z : RowLine). z.version) x.2 in
            let z = ap (λ (z : RowLine). z.version) y.2 in
            let up = drawn.rising i j x.0 y.0 below x.1 y.1
            (ap (λ (z : RowLine). z.sampler) x.2 ∙ same ∙ sym (ap (λ (z : RowLine). z.sampler) y.2)) in
            omega (arith, v, z, up);
      };
      drawn_by = λ y line is.
          let x = line_there y line is in
          let its = drawn.each y x.0 x.1 in
          let sampler = ap (λ (z : RowLine). z.sampler) x.2 in
          record {
            inside = (let n = its.among in let count = may.agree.count in omega (arith, sampler, n, count));
            dealt_to = λ dealt. sym sampler ∙ its.dealt_to dealt ∙ ap (sampler_of y) may.agree.count;
          };
    }

    from_draws : (y : ℕ) (line : RowLine) → slice_get report.rows.elements y ≡ Some line
        → WasDrawn table filter schedule.DEALT s.geometry s.depth s.count w s.samplers.elements job.scene.path job.picture y line.version
        (get_or (bytes_of s.drawn.elements) y [])
    from_draws y line is =
        let x = line_there y line is in
        let its = drawn.each y x.0 x.1 in
        subst (λ (z : Shape × ℕ × ℕ × ℕ × List ℕ).
        WasDrawn table filter schedule.DEALT z.0 z.1 z.2 w s.samplers.elements job.scene.path job.picture y z.3 z.4)
        (λ i. (
          sym geometry_is i,
          sym depth_is i,
          sym count_is i,
          (ap (λ (v : RowLine). v.version) x.2) i,
          sym (bytes_at s.drawn.elements y x.0 x.1) i,
        )) its.drawn

    rows_full : All (IsFull l.depth s.width) (bytes_of s.drawn.elements)
    rows_full = All-map (IsFull l.depth s.width) (λ (j : RowJob). j.samples.elements) s.drawn.elements
        (λ y e inside. subst (λ (n : ℕ). IsFull n s.width (get_or s.drawn.elements y e).samples.elements) agree.depth
        (drawn.idle.rows.each y (get_or s.drawn.elements y e) (slice_get-get_or s.drawn.elements y e inside)).1)

    job_shape : job.scene.shape ≡ l.shape
    job_shape = may.draw.shape ∙ may.agree.shape ∙ sym same_shape

    job_depth : job.scene.depth ≡ l.depth
    job_depth = may.draw.depth ∙ may.agree.depth ∙ sym same_depth

    replayed : IfSome (known_bytes g l.stores)
        (λ bytes. AreReplayed l.depth s.width (λ m x y. filter.under (stored bytes) job.scene m job.picture x y) (table.journal w) report.rows.elements
        (bytes_of s.drawn.elements))
    replayed =
        subst (λ (z : ℕ × ℕ). IfSome (known_bytes g l.stores)
        (λ bytes. AreReplayed z.0 z.1 (λ m x y. filter.under (stored bytes) job.scene m job.picture x y) (table.journal w) report.rows.elements
        (bytes_of s.drawn.elements))) (λ i. (job_depth i, (may.draw.width ∙ sym width_is) i))
        (picture_replayed filter.shown filter.under law table w sound job.scene
        (subst IsWithinLimits (sym job_shape) (subst IsWithinLimits (sym same_shape) may.fit.limits)) (known_bytes g l.stores) job.picture
        job.scene.path.width report.rows.elements (bytes_of s.drawn.elements)
        (subst (λ (z : Shape × ℕ). IsStoreIfKnown (known_bytes g l.stores) z.0 z.1) (λ i. (sym job_shape i, sym job_depth i)) ended.pool.known)
        (subst (λ (z : Shape × ℕ). AreStoredPages z.0 z.1 (known_bytes g l.stores) (table.is_filled w)) (λ i. (sym job_shape i, sym job_depth i))
        stored_after)
        (λ y line is. subst (λ (z : Shape × ℕ). AreShown filter.shown z.0 z.1 line.version (table.knows w) (shot_row z.0 job.scene.path job.picture y)
        job.scene.path.width (get_or (bytes_of s.drawn.elements) y []))
        (λ i. ((geometry_is ∙ sym may.draw.shape) i, (depth_is ∙ sym may.draw.depth) i)) (from_draws y line is).drawn))

    pictured : IsPictured (drawing_by_turns filter schedule.DEALT) (drawn_by table filter schedule.DEALT s (Some u)) job report.rows.elements
        (state_by g (table.frame_count w) (table.journal w) l s)
    pictured = record {
      count = length-map s.drawn.elements (λ (j : RowJob). j.samples.elements) ∙ drawn.idle.pool.number;
      full = rows_full;
      replayed = replayed;
      from_draws = from_draws;
      all_counts = drawn.idle.pool.counts ∙ ap (λ x. pages_of x) agree.shape;
      counts_are = λ p inside. drawn.counted p (subst (λ x. p < pages_of x) (same_shape ∙ sym may.agree.shape) inside);
    }

    -- and what was done is a pass
    ran : Ran (drawing_by_turns filter schedule.DEALT) (drawn_by table filter schedule.DEALT s (Some u)) job report
        (state_by g (table.frame_count b.streamer.writer) start (stream_before k b.stream) r) (state_by g (table.frame_count w) (table.journal w) l s)
    ran = record {
      setup = refused.setup;
      outcome = subst (λ (x : List Bool). IsOutcome job.batch x report.events.elements) (sym losses) (ended.outcome report.events.elements events_are);
      journal = journal_is;
      rows = in_order;
      read = subst (λ (x : List Bool). AreReadFor k.shape k.depth job.batch x (files_of g (stream_before k b.stream).stores) (files_of g l.stores))
          (sym losses) ended.read;
      picture = pictured;
    }

    -- whose rows came in it
    held : held_from table filter b.streamer.writer b.samplers (Some u) s job report.rows.elements
    held y line is =
        let x = line_there y line is in
        let its = (drawn.each y x.0 x.1).held in
        let moved : IsHeldRow table filter r.geometry r.depth b.streamer.writer w b.samplers s.samplers.elements job.scene.path job.picture y (line_of x.0)
        x.0.samples.elements =
        record {
          was = its.was;
          had = its.had;
          home = its.home;
          has = its.has;
          reader = its.reader;
          came = came_within b.streamer.writer t.writer w w x.0.sampler its.reader its.home.reader streamed.later (later_none w) its.came;
          drew = its.drew;
          drawn = its.drawn;
        } in
        subst (λ (z : Shape × ℕ × RowLine × List ℕ).
        IsHeldRow table filter z.0 z.1 b.streamer.writer w b.samplers s.samplers.elements job.scene.path job.picture y z.2 z.3)
        (λ i. (sym geometry_is i, sym depth_is i, x.2 i, sym (bytes_at s.drawn.elements y x.0 x.1) i)) moved

  -- however it ends
  pub finished : (came_within : (m n v w : W) (number : ℕ) (reader home : R) → table.later m n → table.later v w → table.came n v number reader home
      → table.came m w number reader home) (later_none : (v : W) → table.later v v) (o : Option (PassStreamer T H R W)) → o ≡ Some u
      → (result : Result PassReport NoMemory) → OnOk result (t.refused ≡ false)
      → IfOk result (λ report. (x : Begun F T S H R W B O M) → MayFinish g table schedule filter shared rows q k r job c f t x
      → HasEnded table filter schedule.DEALT r s job.scene job.picture (length (table.journal x.streamer.writer)) t.writer w x.samplers report.rows.elements)
      → OnOk result (IsSound table w) → IfOk result (λ report. report.events.elements ≡ t.report.events.elements)
      → IfOk result (λ report. report.losses.elements ≡ t.report.losses.elements)
      → EndsPassRun (drawing_by_turns filter schedule.DEALT) (drawn_by table filter schedule.DEALT s o) (IsIdleBy g table shared o l s) job result
      (state_by g (table.frame_count b.streamer.writer) start (stream_before k b.stream) r) (state_by g (frames_by table o) (journal_by table o) l s)
      × IfOk result (λ report. held_from table filter b.streamer.writer b.samplers o s job report.rows.elements)
  finished came_within later_none o is result went_on drawn sound events losses =
      subst (λ (x : Option (PassStreamer T H R W)). EndsPassRun (drawing_by_turns filter schedule.DEALT) (drawn_by table filter schedule.DEALT s x)
      (IsIdleBy g table shared x l s) job result (state_by g (table.frame_count b.streamer.writer) start (stream_before k b.stream) r)
      (state_by g (frames_by table x) (journal_by table x) l s)
      × IfOk result (λ report. held_from table filter b.streamer.writer b.samplers x s job report.rows.elements)) (sym is)
      (by_result result went_on drawn sound events losses) where
        by_result : (result : Result PassReport NoMemory) → OnOk result (t.refused ≡ false)
            → IfOk result (λ report. (x : Begun F T S H R W B O M) → MayFinish g table schedule filter shared rows q k r job c f t x
            → HasEnded table filter schedule.DEALT r s job.scene job.picture (length (table.journal x.streamer.writer)) t.writer w x.samplers
            report.rows.elements)
            → OnOk result (IsSound table w) → IfOk result (λ report. report.events.elements ≡ t.report.events.elements)
            → IfOk result (λ report. report.losses.elements ≡ t.report.losses.elements)
            → EndsPassRun (drawing_by_turns filter schedule.DEALT) (drawn_by table filter schedule.DEALT s (Some u)) (IsIdle g table shared u l s) job result
            (state_by g (table.frame_count b.streamer.writer) start (stream_before k b.stream) r) (state_by g (table.frame_count w) (table.journal w) l s)
            × IfOk result (λ report. held_from table filter b.streamer.writer b.samplers (Some u) s job report.rows.elements)
        by_result (Ok report) went_on drawn sound events losses = (
          record {
            ran = ran came_within later_none report went_on (drawn b may) sound events losses;
            goes_on = goes_on came_within later_none report went_on (drawn b may) sound events losses;
            broke = tt;
          },
          held came_within later_none report went_on (drawn b may) sound events losses,
        )
        by_result (Err refusal) went_on drawn sound events losses = (record { ran = tt; goes_on = tt; broke = refused }, tt)

-- a pass ended with what its workers share, which has another name
pub ends_with : {F T S H R W B O M : Type 0} (g : FileMeanings F) (table : TableMeanings T H R W) {x y : H} (same : x ≡ y)
    (o : Option (PassStreamer T H R W)) (k : LoaderPoolView F) (r : PassPool T S H R W B O M) {draws : Drawing} {drawn : RowRelation} {job : Job}
    {result : Result PassReport NoMemory} {before after : MachineState}
    → EndsPassRun draws drawn (IsIdleBy g table x o k r) job result before after → EndsPassRun draws drawn (IsIdleBy g table y o k r) job result before after
ends_with g table same o k r {draws} {drawn} {job} {result} {before} {after} ends =
    subst (λ z. EndsPassRun draws drawn (IsIdleBy g table z o k r) job result before after) same ends
