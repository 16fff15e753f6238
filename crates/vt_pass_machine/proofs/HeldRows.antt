-- Rows that came in a pass of a machine whose streamer is there.
use Rattle.std.proofs.Common.{Option, None, Some, List}
use Rattle.vt_pass_pool.specs.JournalTypes.changes.RowLine.{RowLine}
use Rattle.vt_pass_pool.specs.PicturesTypes.filters.Filter.{Ghosts as FilterMeanings}
use Rattle.vt_loading.specs.Jobs.{Job}
use Rattle.vt_pass_pool.specs.PageTableTypes.table.PageTable.{Ghosts as TableMeanings}
use Rattle.vt_pass_pool.specs.PassRowsTypes.sampler.PassSampler.{PassSampler}
use Rattle.vt_pass_pool.specs.declared.pool.PassPool.{PassPool}
use Rattle.vt_pass_pool.specs.declared.shared.PassStreamer.{PassStreamer}
use Rattle.vt_pass_machine.specs.Machines.{held_from, held_by, OfWriters}

-- both streamers are there where rows came from the one to the other
pub of_held : {T S P H R W B O M : Type 0} (table : TableMeanings T H R W) (filter : FilterMeanings P) (before : List (PassSampler T S H R W B O M))
    (r : PassPool T S H R W B O M) (job : Job) (lines : List RowLine) (is : Option (PassStreamer T H R W) → Type 0) (holds : W → W → Type 0)
    (o t : Option (PassStreamer T H R W)) → is o → held_by table filter o before t r job lines
    → ((u v : PassStreamer T H R W) → is (Some u) → held_from table filter u.writer before (Some v) r job lines → holds u.writer v.writer)
    → OfWriters holds o t
of_held table filter before r job lines is holds None t so held on = absurd held
of_held table filter before r job lines is holds (Some u) None so held on = absurd held
of_held table filter before r job lines is holds (Some u) (Some v) so held on = on u v so held
