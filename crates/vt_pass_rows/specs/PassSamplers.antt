-- What a sampler of a pass asks and leaves.
use Rattle.std.specs.Prelude.{◌≡◌, ℕ, ◌<◌, ◌≤◌, [], length, reverse, slice_index, All}
use Rattle.vt_definitions.specs.Depths.{IsDepth}
use Rattle.vt_page_table.specs.Shape.{Shape}
use Rattle.vt_page_table.specs.Pages.{pages_of}
use Rattle.vt_page_table.specs.Paths.{PathView}
use Rattle.vt_page_table.specs.Shots.{wants_in_rows}
use Rattle.vt_page_table.specs.PicturesTypes.filters.Filter.{Ghosts as FilterMeanings}
use Rattle.vt_page_table.specs.declared.table.PageTable.{Ghosts as TableMeanings}
use Rattle.vt_schedules.specs.Samplers.{row_length}
use Rattle.vt_schedules.specs.SharedRows.{VersionsRise, rows_of, versions_of}
use Rattle.vt_schedules.specs.declared.schedule.Schedule.{Ghosts as ScheduleMeanings}
use Rattle.vt_pass_rows.specs.declared.sampler.PassSampler.{PassSampler}
use Rattle.vt_pass_rows.specs.DrawnRows.{IsDrawnRow}

-- a sampler may draw a picture: its reader was opened for it, it has a way to its rows, keeps nothing, and has room for all of them
pub record MayDraw {T S H R W B O M : Type 0} (table : TableMeanings T H R W) (schedule : ScheduleMeanings S B O M) (shared : H) (rows : B) (s : Shape)
    (d : ℕ) (path : PathView) (picture : ℕ) (a : PassSampler T S H R W B O M) : Type 0 where
  pub opened : table.is_open shared s a.number a.reader
  pub of : schedule.is_of rows path.height (row_length d path.width) a.own
  pub depth : IsDepth d
  pub picture_is : picture < length path.cameras
  pub none : a.kept.elements ≡ []
  pub room : path.height ≤ a.kept.spare
  pub pages : length a.counts.items ≡ pages_of s

-- a sampler has drawn rows of a picture: first its reader entered; then it drew each row on its own, and nothing else; the versions never fall; and
-- it counted what the rows want
pub record HasDrawn {T S P H R W B O M : Type 0} (table : TableMeanings T H R W) (schedule : ScheduleMeanings S B O M) (filter : FilterMeanings P)
    (shared : H) (rows : B) (s : Shape) (d : ℕ) (path : PathView) (picture height line : ℕ) (a b : PassSampler T S H R W B O M) : Type 0 where
  pub number : b.number ≡ a.number
  pub may : table.may_draw shared s b.number b.reader
  pub of : schedule.is_of rows height line b.own
  pub first : R
  pub entered : table.entered a.reader first
  pub start : table.start b.reader ≡ table.start a.reader
  pub drew : table.drew_rows first b.reader (reverse (versions_of b.kept.elements))
  pub took : schedule.took height line a.own b.own (rows_of b.kept.elements)
  pub ended : schedule.ended height line a.own b.own (rows_of b.kept.elements)
  pub drawn : All (IsDrawnRow table filter s d path picture height line a.number first b.reader) b.kept.elements
  pub start_is : table.start first ≡ table.start a.reader
  pub rising : VersionsRise b.kept.elements
  pub pages : length b.counts.items ≡ length a.counts.items
  pub counted : (p : ℕ) → p < length b.counts.items
      → slice_index b.counts.items p ≡ wants_in_rows filter.wants s path picture (rows_of b.kept.elements) p
