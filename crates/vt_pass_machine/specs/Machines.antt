-- The machine.
use Rattle.std.specs.Prelude.{◌≡◌, ℕ, ◌*◌, Bool, Option, None, Some, List, [], length, slice_get, slice_index_or, Result, IfOk}
use Rattle.std.specs.Arc.{arc_value}
use Rattle.vt_outside.specs.declared.outside.File.{Ghosts as FileMeanings}
use Rattle.vt_outside.specs.declared.answers.NoMemory.{NoMemory}
use Rattle.vt_load.specs.Shape.{Shape}
use Rattle.vt_pass_pool.specs.Pages.{IsWithinLimits}
use Rattle.vt_load.specs.Format.{stored}
use Rattle.vt_load.specs.StoreViews.{IsStore}
use Rattle.vt_pass_pool.specs.PicturesTypes.filters.Filter.{Ghosts as FilterMeanings}
use Rattle.vt_pass_pool.specs.JournalTypes.changes.Change.{Change}
use Rattle.vt_pass_pool.specs.JournalTypes.changes.RowLine.{RowLine}
use Rattle.vt_pass_pool.specs.Changes.{newest, at}
use Rattle.vt_pass_pool.specs.Evidence.{AreTrue}
use Rattle.vt_load.specs.declared.queued.Queues.{Queues}
use Rattle.vt_load.specs.QueuedLoaders.{QueuedView}
use Rattle.vt_loading.specs.PlanTypes.batches.Planned.{Planned}
use Rattle.vt_loading.specs.Jobs.{Job}
use Rattle.vt_loading.specs.MachineTypes.crew.PassReport.{PassReport}
use Rattle.vt_loading.specs.Drawings.{Drawing, drawing_of, RowRelation}
use Rattle.vt_loading.specs.Machines.{Setup, MachineState, files_of, known_bytes}
use Rattle.vt_loading.specs.Outcomes.{IsBatchFor}
use Rattle.vt_loading.specs.Passes.{EndsPassRun}
use Rattle.vt_loading.specs.LoaderPools.{LoaderPoolView, IsLoaderPool, IsPreparedStream, IsAskedStream, AreLoadersOut, StreamBegun, stream_before, MayEndStream}
use Rattle.vt_pass_pool.specs.PageTableTypes.table.PageTable.{Ghosts as TableMeanings}
use Rattle.vt_pass_pool.specs.Fills.{AreStoredPages, FillsOne}
use Rattle.vt_pass_pool.specs.SchedulesTypes.schedule.Schedule.{Ghosts as ScheduleMeanings}
use Rattle.vt_pass_pool.specs.declared.pool.PassPool.{PassPool}
use Rattle.vt_pass_pool.specs.PassRowsTypes.sampler.PassSampler.{PassSampler}
use Rattle.vt_pass_pool.specs.Placing.{bytes_of}
use Rattle.vt_pass_pool.specs.Pools.{IsIdlePool, IsDealtPool, IsReadyPool}
use Rattle.vt_pass_pool.specs.Ended.{MayEnd, WasDrawn, IsHeldRow}
use Rattle.vt_pass_pool.specs.declared.shared.PassStreamer.{PassStreamer}
use Rattle.vt_pass_pool.specs.PassTasks.{HasStreamed}
use Rattle.vt_pass_machine.specs.declared.machine.Machine.{Machine}

-- how a machine draws by a filter, with rows that are dealt or shared
abbrev pub drawing_by_turns : {P : Type 0} → FilterMeanings P → Bool → Drawing
drawing_by_turns filter dealt = record (drawing_of filter) { dealt = dealt }

-- the journal of a streamer's page table, if it is there
abbrev pub journal_by : {T H R W : Type 0} → TableMeanings T H R W → Option (PassStreamer T H R W) → List Change
journal_by table None = []
journal_by table (Some t) = table.journal t.writer

-- and its number of frames
abbrev pub frames_by : {T H R W : Type 0} → TableMeanings T H R W → Option (PassStreamer T H R W) → ℕ
frames_by table None = 0
frames_by table (Some t) = table.frame_count t.writer

-- what a machine was made for
abbrev pub setup_by : {F T S H R W B O M : Type 0} → FileMeanings F → ℕ → LoaderPoolView F → PassPool T S H R W B O M → Setup
setup_by g frames k r = record {
  shape = k.shape;
  depth = k.depth;
  width = r.width;
  height = r.height;
  frames = frames;
  crew = k.crew;
  bytes = known_bytes g k.stores;
}

-- what a machine of so many frames and of a journal is
abbrev pub state_by : {F T S H R W B O M : Type 0} → FileMeanings F → ℕ → List Change → LoaderPoolView F → PassPool T S H R W B O M → MachineState
state_by g frames journal k r = record {
  setup = setup_by g frames k r;
  files = files_of g k.stores;
  journal = journal;
  rows = bytes_of r.drawn.elements;
  counts = r.counts;
}

-- what a machine is at present
abbrev pub state_of : {F T S P H R W B O M : Type 0} → FileMeanings F → TableMeanings T H R W → Machine F T S P H R W B O M → MachineState
state_of g table m = state_by g (frames_by table m.streamer) (journal_by table m.streamer) m.streams m.pool

-- what a writer knows is true of its journal over each store of whose tiles it filled its pages
abbrev pub IsSound : {T H R W : Type 0} → TableMeanings T H R W → W → Type 0
IsSound table w = (s : Shape) (d : ℕ) (b : List ℕ) (version : ℕ) → IsWithinLimits s → IsStore b s d → AreStoredPages s d (Some b) (table.is_filled w)
    → AreTrue s (stored b) (at (table.journal w) version) version (table.knows w)

-- a streamer for a pool's texture, whose pages were filled with tiles of the store
pub record IsFit {F T H R W : Type 0} (g : FileMeanings F) (table : TableMeanings T H R W) (shared : H) (t : PassStreamer T H R W) (k : LoaderPoolView F)
    : Type 0 where
  pub of : table.is_of shared t.writer
  pub shape : table.shape t.writer ≡ k.shape
  pub geometry : t.geometry ≡ k.shape
  pub depth : t.depth ≡ k.depth
  pub limits : IsWithinLimits k.shape
  pub stored : AreStoredPages k.shape k.depth (known_bytes g k.stores) (table.is_filled t.writer)

-- both parts were made for one texture and one crew
pub record Agree {F T S H R W B O M : Type 0} (k : LoaderPoolView F) (r : PassPool T S H R W B O M) : Type 0 where
  pub shape : r.geometry ≡ k.shape
  pub depth : r.depth ≡ k.depth
  pub count : r.count ≡ k.crew.samplers

-- no pass is prepared
pub record IsIdle {F T S H R W B O M : Type 0} (g : FileMeanings F) (table : TableMeanings T H R W) (shared : H) (t : PassStreamer T H R W)
    (k : LoaderPoolView F) (r : PassPool T S H R W B O M) : Type 0 where
  pub fit : IsFit g table shared t k
  pub pool : IsLoaderPool g k
  pub samplers : IsIdlePool table t.writer r
  pub agree : Agree k r

-- all memory was taken for a pass of a batch, which is lawful for the newest version: the requests are still to be put, and the readers to be opened
pub record IsPrepared {F T S H R W B O M : Type 0} (g : FileMeanings F) (table : TableMeanings T H R W) (schedule : ScheduleMeanings S B O M) (shared : H)
    (rows : B) (q : Queues) (t : PassStreamer T H R W) (k : LoaderPoolView F) (r : PassPool T S H R W B O M) (batch : List Planned) : Type 0 where
  pub fit : IsFit g table shared t k
  pub prepared : IsPreparedStream g q t.answers t.report k batch
  pub lawful : IsBatchFor (table.shape t.writer) (table.frame_count t.writer) (newest (table.journal t.writer)) batch
  pub room : table.has_room t.writer (2 * length batch)
  pub samplers : IsDealtPool table schedule t.writer rows r
  pub agree : Agree k r

-- a pass is prepared for a batch, which is lawful for the newest version, at which the pass starts
pub record IsReady {F T S H R W B O M : Type 0} (g : FileMeanings F) (table : TableMeanings T H R W) (schedule : ScheduleMeanings S B O M) (shared : H)
    (rows : B) (q : Queues) (t : PassStreamer T H R W) (k : LoaderPoolView F) (r : PassPool T S H R W B O M) (batch : List Planned) : Type 0 where
  pub fit : IsFit g table shared t k
  pub asked : IsAskedStream g q t.answers t.report k batch
  pub lawful : IsBatchFor (table.shape t.writer) (table.frame_count t.writer) (newest (table.journal t.writer)) batch
  pub room : table.has_room t.writer (2 * length batch)
  pub samplers : IsReadyPool table schedule shared rows (length (table.journal t.writer)) r r.samplers.elements
  pub agree : Agree k r

-- so with a streamer that may be out
abbrev pub IsIdleBy : {F T S H R W B O M : Type 0} → FileMeanings F → TableMeanings T H R W → H → Option (PassStreamer T H R W) → LoaderPoolView F
    → PassPool T S H R W B O M → Type 0
IsIdleBy g table shared None k r = ⊥
IsIdleBy g table shared (Some t) k r = IsIdle g table shared t k r

abbrev pub IsReadyBy : {F T S H R W B O M : Type 0} → FileMeanings F → TableMeanings T H R W → ScheduleMeanings S B O M → H → B → Queues
    → Option (PassStreamer T H R W) → LoaderPoolView F → PassPool T S H R W B O M → List Planned → Type 0
IsReadyBy g table schedule shared rows q None k r batch = ⊥
IsReadyBy g table schedule shared rows q (Some t) k r batch = IsReady g table schedule shared rows q t k r batch

-- what samplers have drawn up to now, by what the writer of a streamer knows
abbrev pub drawn_by : {T S P H R W B O M : Type 0} → TableMeanings T H R W → FilterMeanings P → Bool → PassPool T S H R W B O M
    → Option (PassStreamer T H R W) → RowRelation
drawn_by table filter dealt r None path i y version bytes = ⊥
drawn_by table filter dealt r (Some t) path i y version bytes =
    WasDrawn table filter dealt r.geometry r.depth r.count t.writer r.samplers.elements path i y version bytes

-- how the rows of a pass came that began with a writer and with samplers, by a streamer that may be out
abbrev pub held_from : {T S P H R W B O M : Type 0} → TableMeanings T H R W → FilterMeanings P → W → List (PassSampler T S H R W B O M)
    → Option (PassStreamer T H R W) → PassPool T S H R W B O M → Job → List RowLine → Type 0
held_from table filter v before None r job lines = ⊥
held_from table filter v before (Some t) r job lines = (y : ℕ) (line : RowLine) → slice_get lines y ≡ Some line
    → IsHeldRow table filter r.geometry r.depth v t.writer before r.samplers.elements job.scene.path job.picture y line
    (slice_index_or (bytes_of r.drawn.elements) y [])

-- and of one that began with a streamer that may be out
abbrev pub held_by : {T S P H R W B O M : Type 0} → TableMeanings T H R W → FilterMeanings P → Option (PassStreamer T H R W)
    → List (PassSampler T S H R W B O M) → Option (PassStreamer T H R W) → PassPool T S H R W B O M → Job → List RowLine → Type 0
held_by table filter None before t r job lines = ⊥
held_by table filter (Some was) before t r job lines = held_from table filter was.writer before t r job lines

-- a page was filled with a tile, or no page; a streamer is else as it was
pub record HasPlaced {T H R W : Type 0} (table : TableMeanings T H R W) (shared : H) (page : ℕ) (tile : List ℕ) (t u : PassStreamer T H R W) : Type 0 where
  pub rest : u ≡ record t { writer = u.writer }
  pub of : table.is_of shared u.writer
  pub shape : table.shape u.writer ≡ table.shape t.writer
  pub frames : table.frame_count u.writer ≡ table.frame_count t.writer
  pub filled : FillsOne t.depth ((table.shape t.writer).tile * (table.shape t.writer).tile) page tile (table.is_filled t.writer) (table.is_filled u.writer)
  pub home : (k : ℕ) (r : R) → table.is_home t.writer k r → table.is_home u.writer k r

-- the workers were moved out of a machine
pub record IsDetached {F T S P H R W B O M : Type 0} (g : FileMeanings F) (m n : Machine F T S P H R W B O M) (loaders : List (QueuedView F))
    (samplers : List (PassSampler T S H R W B O M)) (t : PassStreamer T H R W) : Type 0 where
  pub shared : arc_value n.shared ≡ arc_value m.shared
  pub gone : n.streamer ≡ None
  pub was : PassStreamer T H R W
  pub there : m.streamer ≡ Some was
  pub streamer_is : t ≡ record was { answers = t.answers }
  pub loaders_out : AreLoadersOut g (arc_value m.shared).parts.queues m.streams n.streams was.answers t.answers loaders
  pub samplers_are : samplers ≡ m.pool.samplers.elements
  pub pool : n.pool ≡ record m.pool { samplers = n.pool.samplers }

-- how the work of a pass began: the round of the loaders, the streamer and the samplers
pub record Begun (F T S H R W B O M : Type 0) : Type 0 where
  pub stream : StreamBegun F
  pub streamer : PassStreamer T H R W
  pub samplers : List (PassSampler T S H R W B O M)

-- workers may be moved back
pub record MayFinish {F T S P H R W B O M : Type 0} (g : FileMeanings F) (table : TableMeanings T H R W) (schedule : ScheduleMeanings S B O M)
    (filter : FilterMeanings P) (shared : H) (rows : B) (q : Queues) (k : LoaderPoolView F) (r : PassPool T S H R W B O M) (job : Job)
    (loaders : List (QueuedView F)) (samplers : List (PassSampler T S H R W B O M)) (t : PassStreamer T H R W) (b : Begun F T S H R W B O M) : Type 0 where
  pub stream : MayEndStream g q k job.batch loaders t.answers t.report b.stream
  pub fit : IsFit g table shared b.streamer (stream_before k b.stream)
  pub no_events : b.streamer.report.events.elements ≡ []
  pub fed : HasStreamed table shared q job.batch b.streamer t
  pub draw : MayEnd table schedule filter shared rows r job.scene job.picture (length (table.journal b.streamer.writer)) b.samplers samplers
  pub agree : Agree k r

-- into a machine whose streamer is out
pub record MayFinishOut {F T S P H R W B O M : Type 0} (g : FileMeanings F) (table : TableMeanings T H R W) (schedule : ScheduleMeanings S B O M)
    (filter : FilterMeanings P) (n : Machine F T S P H R W B O M) (job : Job) (loaders : List (QueuedView F))
    (samplers : List (PassSampler T S H R W B O M)) (t : PassStreamer T H R W) (b : Begun F T S H R W B O M) : Type 0 where
  pub gone : n.streamer ≡ None
  pub may : MayFinish g table schedule filter (arc_value n.shared).parts.table (arc_value n.shared).parts.rows (arc_value n.shared).parts.queues n.streams n.pool job loaders samplers t b

-- how a pass of a machine ends
abbrev pub PassEnds : {F T S P H R W B O M : Type 0} → FileMeanings F → TableMeanings T H R W → ScheduleMeanings S B O M → FilterMeanings P → Job
    → Result PassReport NoMemory → MachineState → Machine F T S P H R W B O M → Type 0
PassEnds g table schedule filter job result before p = EndsPassRun (drawing_by_turns filter schedule.DEALT)
    (drawn_by table filter schedule.DEALT p.pool p.streamer) (IsIdleBy g table (arc_value p.shared).parts.table p.streamer p.streams p.pool) job result before (state_of g table p)

-- however the work began, what was done is a pass, and its rows came in it; or memory was refused
abbrev pub Finishes : {F T S P H R W B O M : Type 0} → FileMeanings F → TableMeanings T H R W → ScheduleMeanings S B O M → FilterMeanings P → Job
    → Result PassReport NoMemory → Machine F T S P H R W B O M → List (QueuedView F) → List (PassSampler T S H R W B O M) → PassStreamer T H R W
    → Machine F T S P H R W B O M → Type 0
Finishes g table schedule filter job result n loaders samplers t p = (b : Begun _ _ _ _ _ _ _ _ _)
    → MayFinishOut g table schedule filter n job loaders samplers t b
    → PassEnds g table schedule filter job result (state_by g (table.frame_count b.streamer.writer) (table.journal b.streamer.writer)
    (stream_before n.streams b.stream) n.pool) p
    × IfOk result (λ report. held_from table filter b.streamer.writer b.samplers p.streamer p.pool job report.rows.elements)

-- there are both streamers, and this holds of their writers
abbrev pub OfWriters : {T H R W : Type 0} → (W → W → Type 0) → Option (PassStreamer T H R W) → Option (PassStreamer T H R W) → Type 0
OfWriters P None o = ⊥
OfWriters P (Some t) None = ⊥
OfWriters P (Some t) (Some u) = P t.writer u.writer
