-- A writer that makes no change.
use Rattle.std.specs.Prelude.{◌≡◌}
use Rattle.vt_pass_rows.specs.PageTableTypes.table.PageTable.{Ghosts as TableMeanings}
use Rattle.vt_pass_rows.specs.Fills.{FillsNone}

-- a writer came to be another by calls that change neither the page table nor a frame
pub record IsStill {T H R W : Type 0} (table : TableMeanings T H R W) (shared : H) (v w : W) : Type 0 where
  pub of : table.is_of shared w
  pub shape : table.shape w ≡ table.shape v
  pub frames : table.frame_count w ≡ table.frame_count v
  pub journal : table.journal w ≡ table.journal v
  pub fills : FillsNone (table.is_filled v) (table.is_filled w)
  pub later : table.later v w
