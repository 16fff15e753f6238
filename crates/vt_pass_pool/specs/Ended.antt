-- How a pass ends for the samplers of a machine.
use Rattle.std.specs.Prelude.{◌≡◌, ℕ, ◌<◌, ◌≤◌, Bool, IsTrue, Some, List, length, slice_get, slice_index}
use Rattle.vt_definitions.specs.Dealing.{sampler_of}
use Rattle.vt_journal.specs.Shape.{Shape}
use Rattle.vt_journal.specs.Pages.{pages_of}
use Rattle.vt_pass_rows.specs.Paths.{PathView}
use Rattle.vt_pass_rows.specs.Shots.{shot_row}
use Rattle.vt_pass_rows.specs.Scenes.{Scene}
use Rattle.vt_journal.specs.declared.changes.RowLine.{RowLine}
use Rattle.vt_pass_rows.specs.PicturesTypes.filters.Filter.{Ghosts as FilterMeanings}
use Rattle.vt_pass_rows.specs.FilterLaws.{picture_wants}
use Rattle.vt_pass_rows.specs.Evidence.{AreShown}
use Rattle.vt_pass_rows.specs.All.{AllDid}
use Rattle.vt_pass_rows.specs.Samplers.{row_length}
use Rattle.vt_pass_rows.specs.PageTableTypes.table.PageTable.{Ghosts as TableMeanings}
use Rattle.vt_pass_rows.specs.SchedulesTypes.bag.RowJob.{RowJob}
use Rattle.vt_pass_rows.specs.SchedulesTypes.schedule.Schedule.{Ghosts as ScheduleMeanings}
use Rattle.vt_pass_rows.specs.declared.sampler.PassSampler.{PassSampler}
use Rattle.vt_pass_rows.specs.PassSamplers.{HasDrawn}
use Rattle.vt_pass_pool.specs.declared.pool.PassPool.{PassPool}
use Rattle.vt_pass_pool.specs.Placing.{line_of, lines_of, RiseBySampler}
use Rattle.vt_pass_pool.specs.Pools.{IsIdlePool, IsReadyPool}

-- samplers have drawn a picture of a scene in a pass that starts at a version
pub record MayEnd {T S P H R W B O M : Type 0} (table : TableMeanings T H R W) (schedule : ScheduleMeanings S B O M) (filter : FilterMeanings P) (shared : H)
    (rows : B) (k : PassPool T S H R W B O M) (scene : Scene) (picture start : ℕ) (before after : List (PassSampler T S H R W B O M)) : Type 0 where
  pub ready : IsReadyPool table schedule shared rows start k before
  pub shape : scene.shape ≡ k.geometry
  pub depth : scene.depth ≡ k.depth
  pub width : scene.path.width ≡ k.width
  pub height : scene.path.height ≡ k.height
  pub number : length after ≡ length before
  pub drawn : AllDid (HasDrawn table schedule filter shared rows scene.shape scene.depth scene.path picture scene.path.height
      (row_length scene.depth scene.path.width)) before after

-- a row of a picture was drawn by a filter by what a writer knows, at a version at which the reader of a sampler drew: where rows are dealt, of the
-- one that it is dealt to
pub record WasDrawn {T S P H R W B O M : Type 0} (table : TableMeanings T H R W) (filter : FilterMeanings P) (dealt : Bool) (s : Shape) (d count : ℕ) (w : W)
    (samplers : List (PassSampler T S H R W B O M)) (path : PathView) (i y version : ℕ) (bytes : List ℕ) : Type 0 where
  pub drawn : AreShown filter.shown s d version (table.knows w) (shot_row s path i y) path.width bytes
  pub number : ℕ
  pub by : PassSampler T S H R W B O M
  pub there : slice_get samplers number ≡ Some by
  pub dealt_to : IsTrue dealt → number ≡ sampler_of y count
  pub at : table.was_at w number by.reader version

-- a row came between two views of a writer and of its samplers: the reader that its line's sampler had drew at the line's version and came home
-- meanwhile, where that sampler has it, and the row was drawn by what that reader said
pub record IsHeldRow {T S P H R W B O M : Type 0} (table : TableMeanings T H R W) (filter : FilterMeanings P) (s : Shape) (d : ℕ) (v w : W)
    (before after : List (PassSampler T S H R W B O M)) (path : PathView) (i y : ℕ) (line : RowLine) (bytes : List ℕ) : Type 0 where
  pub was : PassSampler T S H R W B O M
  pub had : slice_get before line.sampler ≡ Some was
  pub home : PassSampler T S H R W B O M
  pub has : slice_get after line.sampler ≡ Some home
  pub reader : R
  pub came : table.came v w line.sampler reader home.reader
  pub drew : table.drew was.reader reader line.version
  pub drawn : AreShown filter.shown s d line.version (table.says reader) (shot_row s path i y) path.width bytes

-- the row at a place was drawn by one of the samplers, where rows are dealt by the one that it is dealt to, at a version of the pass
pub record IsRowOfPass {T S P H R W B O M : Type 0} (table : TableMeanings T H R W) (filter : FilterMeanings P) (dealt : Bool) (k : PassPool T S H R W B O M)
    (scene : Scene) (picture start : ℕ) (v w : W) (before after : List (PassSampler T S H R W B O M)) (y : ℕ) (job : RowJob) : Type 0 where
  pub among : job.sampler < k.count
  pub dealt_to : IsTrue dealt → job.sampler ≡ sampler_of y k.count
  pub from : start ≤ job.version
  pub to : job.version ≤ length (table.journal w)
  pub drawn : WasDrawn table filter dealt k.geometry k.depth k.count w after scene.path picture y job.version job.samples.elements
  pub held : IsHeldRow table filter k.geometry k.depth v w before after scene.path picture y (line_of job) job.samples.elements

-- the samplers are home, the rows that they drew are in their places, and it is told of them and counted what the picture wants
pub record HasEnded {T S P H R W B O M : Type 0} (table : TableMeanings T H R W) (filter : FilterMeanings P) (dealt : Bool) (k l : PassPool T S H R W B O M)
    (scene : Scene) (picture start : ℕ) (v w : W) (before : List (PassSampler T S H R W B O M)) (lines : List RowLine) : Type 0 where
  pub idle : IsIdlePool table w l
  pub lines_are : lines ≡ lines_of l.drawn.elements
  pub each : (y : ℕ) (job : RowJob) → slice_get l.drawn.elements y ≡ Some job
      → IsRowOfPass table filter dealt k scene picture start v w before l.samplers.elements y job
  pub rising : RiseBySampler l.drawn.elements
  pub counted : (p : ℕ) → p < pages_of k.geometry → slice_index l.counts p ≡ picture_wants filter.wants scene picture p
