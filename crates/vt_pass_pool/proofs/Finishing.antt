-- A pool whose samplers were lent, and are home.
use Rattle.std.proofs.Common.{◌≡◌, ℕ, ◌<◌, List, [], length, sym, ◌∙◌, subst}
use Rattle.std.specs.Prelude.{slice_index}
use Rattle.vt_outside.specs.Lists.{ListView}
use Rattle.vt_pass_rows.specs.Scenes.{Scene}
use Rattle.vt_journal.specs.declared.changes.RowLine.{RowLine}
use Rattle.vt_pass_rows.specs.PicturesTypes.filters.Filter.{Ghosts as FilterMeanings}
use Rattle.vt_pass_rows.specs.PageTableTypes.table.PageTable.{Ghosts as TableMeanings}
use Rattle.vt_pass_rows.specs.SchedulesTypes.bag.RowJob.{RowJob}
use Rattle.vt_pass_rows.specs.SchedulesTypes.schedule.Schedule.{Ghosts as ScheduleMeanings}
use Rattle.vt_pass_rows.specs.SchedulesRows.{AreAllRows}
use Rattle.vt_pass_rows.specs.declared.sampler.PassSampler.{PassSampler}
use Rattle.vt_pass_pool.specs.declared.pool.PassPool.{PassPool}
use Rattle.vt_pass_pool.specs.Placing.{ArePlaced, all_kept, rows_kept, counted_by, lines_of}
use Rattle.vt_pass_pool.specs.Pools.{AreSameSamplers, AreAtHome}
use Rattle.vt_pass_pool.specs.Returned.{AreClosed}
use Rattle.vt_pass_pool.specs.Ended.{MayEnd, HasEnded}
use Rattle.vt_pass_pool.proofs.Drawn.{counted, rows_of_pass, in_place, rising, samplers_stay}

module _ {T S P H R W B O M : Type 0} (table : TableMeanings T H R W) (schedule : ScheduleMeanings S B O M) (filter : FilterMeanings P) (shared : H)
    (rows : B) (k : PassPool T S H R W B O M) (scene : Scene) (picture start : ℕ) (bs cs : List (PassSampler T S H R W B O M))
    (h : MayEnd table schedule filter shared rows k scene picture start bs cs) (v w : W)
    (drew_since : (p q r : R) (version : ℕ) → table.entered p q → table.drew q r version → table.drew p r version) where
  pub has_ended : (ds : ListView (PassSampler T S H R W B O M)) (new : ListView RowJob) (home : M) (left : ListView RowLine) (counts : List ℕ)
      (lines : List RowLine) → AreSameSamplers cs ds.elements → AreAtHome table w ds.elements → AreClosed table v w cs ds.elements
      → AreAllRows schedule.DEALT k.height k.count (rows_kept cs) → ArePlaced (all_kept cs) k.drawn.elements new.elements
      → lines ≡ lines_of new.elements → length counts ≡ length k.counts
      → ((p : ℕ) → p < length k.counts → slice_index counts p ≡ counted_by cs p) → left.elements ≡ []
      → HasEnded table filter schedule.DEALT k (record k { home = home; samplers = ds; drawn = new; lines = left; counts = counts }) scene picture start v w bs
      lines
  has_ended ds new home left counts lines same at_home closed all placed lines_are number sums none = record {
    idle = record {
      pool = record {
        some = h.ready.pool.some;
        few = h.ready.pool.few;
        depth = h.ready.pool.depth;
        sides = h.ready.pool.sides;
        samplers_are = samplers_stay table schedule filter shared rows k scene picture start bs cs h ds.elements same;
        counts = number ∙ h.ready.pool.counts;
        number = placed.number ∙ h.ready.pool.number;
        no_lines = none;
      };
      home = at_home;
      rows = in_place table schedule filter shared rows k scene picture start bs cs h all new.elements placed;
    };
    lines_are = lines_are;
    each = rows_of_pass table schedule filter shared rows k scene picture start bs cs h all new.elements placed v w ds.elements same closed drew_since;
    rising = rising table schedule filter shared rows k scene picture start bs cs h all new.elements placed;
    counted = λ p inside.
        sums p (subst (λ (n : ℕ). p < n) (sym h.ready.pool.counts) inside)
        ∙ counted table schedule filter shared rows k scene picture start bs cs h all p inside;
  }
