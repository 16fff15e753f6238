-- The machine between its passes: made, with a page placed, prepared, and with its workers moved out.
use Rattle.std.proofs.Common.{◌≡◌, ℕ, ◌*◌, ◌<◌, ◌≤◌, List, length, get_or, Option, Some, None, sym, ap, ◌∙◌, subst, arith}
use Rattle.std.specs.Prelude.{IsSome}
use Rattle.std.proofs.lemmas.Option.{slice_get-get_or}
use Rattle.std.specs.Arc.{arc_value}
use Rattle.vt_pass_pool.specs.Depths.{IsDepth}
use Rattle.vt_outside.specs.declared.outside.File.{Ghosts as FileMeanings}
use Rattle.vt_load.specs.Shape.{Shape}
use Rattle.vt_pass_pool.specs.Pages.{pages_of, root_of, IsWithinLimits}
use Rattle.vt_pass_pool.specs.JournalTypes.changes.Change.TheVariants.{Map}
use Rattle.vt_pass_pool.specs.Changes.{newest, IsNext}
use Rattle.vt_pass_pool.specs.Paths.{ArePictureSides}
use Rattle.vt_pass_pool.specs.Samplers.{row_length}
use Rattle.vt_load.specs.Queues.{IsPassOfQueue}
use Rattle.vt_load.specs.declared.queued.Queues.{Queues}
use Rattle.vt_loading.specs.PlanTypes.batches.Planned.{Planned}
use Rattle.vt_loading.specs.Jobs.{Job}
use Rattle.vt_loading.specs.All.{AllReady}
use Rattle.vt_loading.specs.MachineTypes.crew.Crew.{Crew}
use Rattle.vt_loading.specs.Machines.{known_bytes}
use Rattle.vt_loading.specs.Crews.{last_start}
use Rattle.vt_load.specs.Format.{tile_length}
use Rattle.vt_loading.specs.Outcomes.{IsBatchFor}
use Rattle.vt_loading.specs.Passes.{MayPlace, MayPrepare, IsJobFor, IsUntouched, IsSpent}
use Rattle.vt_loading.specs.LoaderPools.{LoaderPoolView, IsLoaderPool, IsSameStream}
use Rattle.vt_loading.proofs.StoreRooms.{known_same, files_same}
use Rattle.vt_pass_pool.specs.PageTableTypes.table.PageTable.{Ghosts as TableMeanings}
use Rattle.vt_pass_pool.specs.Fills.{FillsOne}
use Rattle.vt_pass_pool.specs.SchedulesTypes.schedule.Schedule.{Ghosts as ScheduleMeanings}
use Rattle.vt_pass_pool.specs.PassRowsTypes.sampler.PassSampler.{PassSampler}
use Rattle.vt_pass_pool.specs.PassSamplers.{MayDraw}
use Rattle.vt_pass_pool.specs.declared.pool.PassPool.{PassPool}
use Rattle.vt_pass_pool.specs.Pools.{IsIdlePool}
use Rattle.vt_pass_pool.specs.declared.shared.PassStreamer.{PassStreamer}
use Rattle.vt_pass_pool.specs.PassTasks.{MayStream}
use Rattle.vt_pass_machine.specs.declared.machine.Machine.{Machine}
use Rattle.vt_pass_machine.specs.Machines.{setup_by, state_by, state_of, journal_by, frames_by, IsIdle, IsIdleBy, IsReady, IsReadyBy, HasPlaced}
use Rattle.vt_pass_machine.proofs.Fills.{placed_stored}
use Rattle.vt_pass_machine.proofs.Preparing.{idle_pool}

module _ {F T S H R W B O M : Type 0} (g : FileMeanings F) (table : TableMeanings T H R W) (shared : H) where
  -- a machine that was made is idle
  pub idle_made : (t : PassStreamer T H R W) (k : LoaderPoolView F) (r : PassPool T S H R W B O M) (s : Shape) (d : ℕ) (crew : Crew)
      → table.is_of shared t.writer → table.shape t.writer ≡ s → ((page : ℕ) (words : List ℕ) → table.is_filled t.writer page words → ⊥)
      → t.geometry ≡ s → t.depth ≡ d → IsWithinLimits s → IsLoaderPool g k → k.shape ≡ s → k.depth ≡ d → k.crew ≡ crew
      → IsIdlePool table t.writer r → r.geometry ≡ s → r.depth ≡ d → r.count ≡ crew.samplers → IsIdle g table shared t k r
  idle_made t k r s d crew of shape unfilled geometry depth limits pool same deep crew_is idle r_shape r_depth samplers = record {
    fit = record {
      of = of;
      shape = shape ∙ sym same;
      geometry = geometry ∙ sym same;
      depth = depth ∙ sym deep;
      limits = subst IsWithinLimits (sym same) limits;
      stored = λ page words is. absurd (unfilled page words is);
    };
    pool = pool;
    samplers = idle;
    agree = record {
      shape = r_shape ∙ sym same;
      depth = r_depth ∙ sym deep;
      count = samplers ∙ ap (λ (c : Crew). c.samplers) (sym crew_is);
    };
  }

  -- a machine in which a page was placed, or that was refused memory for it, is idle
  pub idle_placed : (t u : PassStreamer T H R W) (k : LoaderPoolView F) (r : PassPool T S H R W B O M) (page frame : ℕ) (tile : List ℕ)
      → IsIdle g table shared t k r → MayPlace (state_by g (table.frame_count t.writer) (table.journal t.writer) k r) page frame tile
      → HasPlaced table shared page tile t u → IsIdle g table shared u k r
  idle_placed t u k r page frame tile idle may placed = record {
    fit = record {
      of = placed.of;
      shape = placed.shape ∙ idle.fit.shape;
      geometry = ap (λ (x : PassStreamer T H R W). x.geometry) placed.rest ∙ idle.fit.geometry;
      depth = ap (λ (x : PassStreamer T H R W). x.depth) placed.rest ∙ idle.fit.depth;
      limits = idle.fit.limits;
      stored = placed_stored k.shape k.depth (known_bytes g k.stores) (table.is_filled t.writer) (table.is_filled u.writer) idle.fit.stored page tile
          (subst (λ (z : ℕ × Shape). FillsOne z.0 (z.1.tile * z.1.tile) page tile (table.is_filled t.writer) (table.is_filled u.writer))
          (λ i. (idle.fit.depth i, idle.fit.shape i)) placed.filled) may.size may.of_store;
    };
    pool = idle.pool;
    samplers = idle_pool table t.writer u.writer r placed.home idle.samplers;
    agree = idle.agree;
  }

module _ {F T S P H R W B O M : Type 0} (g : FileMeanings F) (table : TableMeanings T H R W) (m : Machine F T S P H R W B O M) where
  pub machine_placed : (t u : PassStreamer T H R W) (page frame : ℕ) (tile : List ℕ) → m.streamer ≡ Some t
      → IsIdleBy g table (arc_value m.shared).parts.table m.streamer m.streams m.pool → MayPlace (state_of g table m) page frame tile
      → HasPlaced table (arc_value m.shared).parts.table page tile t u → IsIdle g table (arc_value m.shared).parts.table u m.streams m.pool
  machine_placed t u page frame tile there idle may placed =
      idle_placed g table (arc_value m.shared).parts.table t u m.streams m.pool page frame tile
      (subst (λ (x : Option (PassStreamer T H R W)). IsIdleBy g table (arc_value m.shared).parts.table x m.streams m.pool) there idle)
      (subst (λ (x : Option (PassStreamer T H R W)).
      MayPlace (state_by g (frames_by table x) (journal_by table x) m.streams m.pool) page frame tile) there may) placed

  -- a machine that was prepared, or was refused memory for it, is what it was but for its rows and its rooms
  module _ (t u : PassStreamer T H R W) (k : LoaderPoolView F) (r : PassPool T S H R W B O M) (there : m.streamer ≡ Some t)
      (frames : table.frame_count u.writer ≡ table.frame_count t.writer) (journal : table.journal u.writer ≡ table.journal t.writer)
      (same : IsSameStream g m.streams k) (sides : (r.width ≡ m.pool.width) × (r.height ≡ m.pool.height)) where
    pub machine_untouched : IsUntouched (state_of g table m) (state_by g (table.frame_count u.writer) (table.journal u.writer) k r)
    machine_untouched = record {
      setup = λ i. record {
        shape = same.shape i;
        depth = same.depth i;
        width = sides.0 i;
        height = sides.1 i;
        frames = (frames ∙ ap (frames_by table) (sym there)) i;
        crew = same.crew i;
        bytes = known_same g m.streams.stores k.stores same.stores i;
      };
      files = files_same g m.streams.stores k.stores same.stores;
      journal = journal ∙ ap (journal_by table) (sym there);
    }

    pub machine_spent : IsSpent (state_of g table m) (state_by g (table.frame_count u.writer) (table.journal u.writer) k r)
    machine_spent = record { setup = machine_untouched.setup; files = machine_untouched.files }

module _ {F T S H R W B O M : Type 0} (g : FileMeanings F) (table : TableMeanings T H R W) (schedule : ScheduleMeanings S B O M) (shared : H) (rows : B)
    (q : Queues) (t : PassStreamer T H R W) (k : LoaderPoolView F) (r : PassPool T S H R W B O M) where
  -- samplers that are moved out of a prepared machine may draw
  pub may_draw : (job : Job) (frames : ℕ) → IsReady g table schedule shared rows q t k r job.batch → IsJobFor (setup_by g frames k r) job
      → AllReady (MayDraw table schedule shared rows job.scene.shape job.scene.depth job.scene.path job.picture) r.samplers.elements
  may_draw job frames ready job_is n d inside =
      let a : PassSampler T S H R W B O M = get_or r.samplers.elements n d in
      let there = slice_get-get_or r.samplers.elements n d inside in
      let its = ready.samplers.ready n a there in
      let is = ready.samplers.pool.samplers_are.each n a there in
      let shape : r.geometry ≡ job.scene.shape = ready.agree.shape ∙ sym job_is.shape in
      let depth : r.depth ≡ job.scene.depth = ready.agree.depth ∙ sym job_is.depth in
      record {
        opened = subst (λ (z : Shape × ℕ). table.is_open shared z.0 z.1 a.reader) (λ i. (shape i, sym is.number_is i)) its.opened;
        of = subst (λ (z : ℕ × ℕ). schedule.is_of rows z.0 z.1 a.own) (λ i. (sym job_is.height i, row_length (depth i) (sym job_is.width i))) its.of;
        depth = subst IsDepth depth ready.samplers.pool.depth;
        picture_is = job_is.picture;
        none = is.none;
        room = (let x = its.room in let h = job_is.height in omega (arith, x, h));
        pages = is.pages ∙ ap (λ s. pages_of s) shape;
      }

  -- and so may the streamer stream
  pub may_stream : (u : PassStreamer T H R W) (batch : List Planned) → IsReady g table schedule shared rows q t k r batch → u ≡ record t { answers = u.answers }
      → IsPassOfQueue q.results u.answers → MayStream table shared q batch u
  may_stream u batch ready own of = subst (λ (x : PassStreamer T H R W). MayStream table shared q batch x) (sym own) (record {
    of = ready.fit.of;
    shape = ready.fit.shape ∙ sym ready.fit.geometry;
    depth_is = subst IsDepth (sym ready.fit.depth) ready.asked.pool.depth;
    answers = of;
    lawful = ready.lawful;
    few = (let a = ready.asked.few in let b = ready.asked.pool.crew.few_entries in omega (arith, a, b));
    room = ready.room;
    report = ready.asked.blank;
  })

module _ {F T S P H R W B O M : Type 0} (g : FileMeanings F) (table : TableMeanings T H R W) (schedule : ScheduleMeanings S B O M)
    (m : Machine F T S P H R W B O M) (t : PassStreamer T H R W) (there : m.streamer ≡ Some t) where
  pub ready_with : (batch : List Planned)
      → IsReadyBy g table schedule (arc_value m.shared).parts.table (arc_value m.shared).parts.rows (arc_value m.shared).parts.queues m.streamer m.streams m.pool batch
      → IsReady g table schedule (arc_value m.shared).parts.table (arc_value m.shared).parts.rows (arc_value m.shared).parts.queues t m.streams m.pool batch
  ready_with batch ready = subst (λ (x : Option (PassStreamer T H R W)).
      IsReadyBy g table schedule (arc_value m.shared).parts.table (arc_value m.shared).parts.rows (arc_value m.shared).parts.queues x m.streams m.pool batch) there ready

  pub samplers_may : (job : Job) (out : List (PassSampler T S H R W B O M))
      → IsReadyBy g table schedule (arc_value m.shared).parts.table (arc_value m.shared).parts.rows (arc_value m.shared).parts.queues m.streamer m.streams m.pool job.batch
      → IsJobFor (state_of g table m).setup job → out ≡ m.pool.samplers.elements
      → AllReady (MayDraw table schedule (arc_value m.shared).parts.table (arc_value m.shared).parts.rows job.scene.shape job.scene.depth job.scene.path job.picture) out
  samplers_may job out ready job_is same =
      subst (AllReady (MayDraw table schedule (arc_value m.shared).parts.table (arc_value m.shared).parts.rows job.scene.shape job.scene.depth job.scene.path job.picture)) (sym same)
      (may_draw g table schedule (arc_value m.shared).parts.table (arc_value m.shared).parts.rows (arc_value m.shared).parts.queues t m.streams m.pool job (frames_by table m.streamer)
      (ready_with job.batch ready) job_is)

  pub streamer_may : (u : PassStreamer T H R W) (batch : List Planned)
      → IsReadyBy g table schedule (arc_value m.shared).parts.table (arc_value m.shared).parts.rows (arc_value m.shared).parts.queues m.streamer m.streams m.pool batch
      → u ≡ record t { answers = u.answers } → IsPassOfQueue (arc_value m.shared).parts.queues.results u.answers
      → MayStream table (arc_value m.shared).parts.table (arc_value m.shared).parts.queues batch u
  streamer_may u batch ready own of =
      may_stream g table schedule (arc_value m.shared).parts.table (arc_value m.shared).parts.rows (arc_value m.shared).parts.queues t m.streams m.pool u batch (ready_with batch ready) own of

-- what a machine may be asked between its passes, said of its streamer
module _ {F T S P H R W B O M : Type 0} (g : FileMeanings F) (table : TableMeanings T H R W) (m : Machine F T S P H R W B O M) (t : PassStreamer T H R W)
    (there : m.streamer ≡ Some t) (was : IsIdleBy g table (arc_value m.shared).parts.table m.streamer m.streams m.pool) where
  pub idle_with : IsIdle g table (arc_value m.shared).parts.table t m.streams m.pool
  idle_with = subst (λ (x : Option (PassStreamer T H R W)). IsIdleBy g table (arc_value m.shared).parts.table x m.streams m.pool) there was

  pub record CanPlace (page frame : ℕ) (tile : List ℕ) : Type 0 where
    pub page_inside : page < pages_of (table.shape t.writer)
    pub frame_inside : frame < table.frame_count t.writer
    pub next : IsNext (newest (table.journal t.writer)) (Map page frame)
    pub early : length (table.journal t.writer) ≤ last_start
    pub depth : IsDepth t.depth
    pub full : length tile ≡ tile_length (table.shape t.writer) t.depth

  pub can_place : (page frame : ℕ) (tile : List ℕ) → MayPlace (state_of g table m) page frame tile → CanPlace page frame tile
  can_place page frame tile asked =
      let fit = idle_with.fit in
      let may = subst (λ (x : Option (PassStreamer T H R W)).
      MayPlace (state_by g (frames_by table x) (journal_by table x) m.streams m.pool) page frame tile) there asked in
      record {
        page_inside = subst (λ (s : Shape). page < pages_of s) (sym fit.shape) may.page_inside;
        frame_inside = may.frame_inside;
        next = may.next;
        early = may.early;
        depth = subst IsDepth (sym fit.depth) idle_with.pool.depth;
        full = subst (λ (z : Shape × ℕ). length tile ≡ tile_length z.0 z.1) (λ i. (sym fit.shape i, sym fit.depth i)) may.size;
      }

  pub record CanPrepare (batch : List Planned) : Type 0 where
    pub root : IsSome (newest (table.journal t.writer) (root_of (table.shape t.writer)))
    pub lawful : IsBatchFor (table.shape t.writer) (table.frame_count t.writer) (newest (table.journal t.writer)) batch
    pub few : length batch ≤ m.streams.crew.batch
    pub early : length (table.journal t.writer) ≤ last_start

  pub can_prepare : (batch : List Planned) → MayPrepare (state_of g table m) batch → CanPrepare batch
  can_prepare batch asked =
      let fit = idle_with.fit in
      let may = subst (λ (x : Option (PassStreamer T H R W)).
      MayPrepare (state_by g (frames_by table x) (journal_by table x) m.streams m.pool) batch) there asked in
      record {
        root = subst (λ (s : Shape). IsSome (newest (table.journal t.writer) (root_of s))) (sym fit.shape) may.root;
        lawful = subst (λ (s : Shape). IsBatchFor s (table.frame_count t.writer) (newest (table.journal t.writer)) batch) (sym fit.shape) may.lawful;
        few = may.few;
        early = may.early;
      }

-- between passes the pictures of a machine have sides and a depth
pub idle_sides : {F T S H R W B O M : Type 0} (g : FileMeanings F) (table : TableMeanings T H R W) (shared : H) (o : Option (PassStreamer T H R W))
    (k : LoaderPoolView F) (r : PassPool T S H R W B O M) → IsIdleBy g table shared o k r → IsDepth r.depth × ArePictureSides r.width r.height
idle_sides g table shared None k r nothing = absurd nothing
idle_sides g table shared (Some t) k r idle = (idle.samplers.pool.depth, idle.samplers.pool.sides)
