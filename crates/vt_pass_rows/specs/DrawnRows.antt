-- Rows that a sampler has drawn.
use Rattle.std.specs.Prelude.{◌≡◌, ℕ, ◌≤◌}
use Rattle.vt_page_table.specs.Shape.{Shape}
use Rattle.vt_page_table.specs.Paths.{PathView}
use Rattle.vt_page_table.specs.Shots.{shot_row}
use Rattle.vt_page_table.specs.PicturesTypes.filters.Filter.{Ghosts as FilterMeanings}
use Rattle.vt_page_table.specs.Evidence.{AreShown}
use Rattle.vt_page_table.specs.declared.table.PageTable.{Ghosts as TableMeanings}
use Rattle.vt_schedules.specs.declared.bag.RowJob.{RowJob}
use Rattle.vt_schedules.specs.SharedRows.{FitsRow}

-- a row was drawn by a filter for a sampler of this number, by what its reader says, at a version at which the reader drew between two views, which
-- is not before the start of the pass
pub record IsDrawnRow {T H R W P : Type 0} (table : TableMeanings T H R W) (filter : FilterMeanings P) (s : Shape) (d : ℕ) (path : PathView)
    (picture height line number : ℕ) (r q : R) (job : RowJob) : Type 0 where
  pub fits : FitsRow height line job
  pub by : job.sampler ≡ number
  pub drawn : AreShown filter.shown s d job.version (table.says q) (shot_row s path picture job.row) path.width job.samples.elements
  pub drew : table.drew r q job.version
  pub since : table.start r ≤ job.version
