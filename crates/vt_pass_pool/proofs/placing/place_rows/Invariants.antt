use Rattle.std.proofs.Common.{◌≡◌, List, ◌++◌, length}
use Rattle.std.specs.Prelude.{All}
use Rattle.vt_pass_rows.specs.SchedulesTypes.bag.RowJob.{RowJob}
use Rattle.vt_pass_pool.specs.Placing.{IsRowInside, ArePlaced}
use Rattle.vt_pass_pool.proofs.placing.place_rows.Given as goal

abbrev pub invariant-loop-job : goal.invariant-loop-job
invariant-loop-job l = record {
  inside : All (IsRowInside (length l.fn.drawn)) l.kept.elements;
  placed : (rows : List RowJob) × (l.initial.kept.elements ≡ l.kept.elements ++ rows) × ArePlaced rows l.fn.drawn l.drawn;
}

abbrev pub decreases-loop-job : goal.decreases-loop-job
decreases-loop-job l = length l.kept.elements
