-- The rows that a sampler of a pass has drawn so far.
use Rattle.std.specs.Prelude.{◌≡◌, ℕ, ◌+◌, ◌<◌, ◌≤◌, length, reverse, slice_index, All}
use Rattle.vt_definitions.specs.Depths.{IsDepth}
use Rattle.vt_page_table.specs.Shape.{Shape}
use Rattle.vt_page_table.specs.Pages.{pages_of}
use Rattle.vt_page_table.specs.Paths.{PathView, ArePictureSides}
use Rattle.vt_page_table.specs.Shots.{wants_in_rows}
use Rattle.vt_page_table.specs.PicturesTypes.filters.Filter.{Ghosts as FilterMeanings}
use Rattle.vt_page_table.specs.declared.table.PageTable.{Ghosts as TableMeanings}
use Rattle.vt_schedules.specs.Samplers.{row_length}
use Rattle.vt_schedules.specs.SharedRows.{VersionsRise, rows_of, versions_of}
use Rattle.vt_schedules.specs.declared.schedule.Schedule.{Ghosts as ScheduleMeanings}
use Rattle.vt_pass_rows.specs.declared.sampler.PassSampler.{PassSampler}
use Rattle.vt_pass_rows.specs.DrawnRows.{IsDrawnRow}

-- a sampler whose reader has entered took so many rows of a picture; each is drawn and counted, at a version at which the reader drew, which never fell
pub record TookRows {T S P H R W B O M : Type 0} (table : TableMeanings T H R W) (schedule : ScheduleMeanings S B O M) (filter : FilterMeanings P)
    (shared : H) (rows : B) (s : Shape) (d : ℕ) (path : PathView) (picture height line turns : ℕ) (a b : PassSampler T S H R W B O M) : Type 0 where
  pub height_is : height ≡ path.height
  pub line_is : line ≡ row_length d path.width
  pub sides : ArePictureSides path.width path.height
  pub depth_is : IsDepth d
  pub picture_is : picture < length path.cameras
  pub number : b.number ≡ a.number
  pub may : table.may_draw shared s b.number b.reader
  pub of : schedule.is_of rows height line b.own
  pub start : table.start b.reader ≡ table.start a.reader
  pub drew : table.drew_rows a.reader b.reader (reverse (versions_of b.kept.elements))
  pub took : schedule.took height line a.own b.own (rows_of b.kept.elements)
  pub drawn : All (IsDrawnRow table filter s d path picture height line a.number a.reader b.reader) b.kept.elements
  pub rising : VersionsRise b.kept.elements
  pub same : length b.counts.items ≡ length a.counts.items
  pub pages : length b.counts.items ≡ pages_of s
  pub counted : (p : ℕ) → p < length b.counts.items
      → slice_index b.counts.items p ≡ wants_in_rows filter.wants s path picture (rows_of b.kept.elements) p
  pub spare : height ≤ turns + b.kept.spare
  pub kept : length b.kept.elements ≡ turns
  pub enough : turns ≤ length (rows_of b.kept.elements)

-- it took them, and nothing is left to take
pub record TookAll {T S P H R W B O M : Type 0} (table : TableMeanings T H R W) (schedule : ScheduleMeanings S B O M) (filter : FilterMeanings P)
    (shared : H) (rows : B) (s : Shape) (d : ℕ) (path : PathView) (picture height line : ℕ) (a b : PassSampler T S H R W B O M) : Type 0 where
  pub turns : ℕ
  pub drew : TookRows table schedule filter shared rows s d path picture height line turns a b
  pub ended : schedule.ended height line a.own b.own (rows_of b.kept.elements)
