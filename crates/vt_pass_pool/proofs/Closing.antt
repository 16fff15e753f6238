-- Readers that were closed, one after another.
use Rattle.std.proofs.Common.{ℕ, ◌≤◌, length, sym, ap, subst}
use Rattle.vt_pass_rows.specs.DrawLookups.{Note}
use Rattle.vt_pass_rows.specs.PageTableTypes.table.PageTable.{Ghosts as TableMeanings}
use Rattle.vt_pass_rows.specs.declared.sampler.PassSampler.{PassSampler}
use Rattle.vt_pass_pool.specs.Stills.{IsStill}
use Rattle.vt_pass_pool.specs.Returned.{IsClosed}

module _ {T S H R W B O M : Type 0} (table : TableMeanings T H R W) (shared : H) (later_none : (w : W) → table.later w w)
    (came_within : (t u v w : W) (k : ℕ) (r q : R) → table.later t u → table.later v w → table.came u v k r q → table.came t w k r q)
    (a b : PassSampler T S H R W B O M) (u v w : W) where
  -- it was closed since an earlier view
  pub closed_since : IsStill table shared u v → IsClosed table v w a b → IsClosed table u w a b
  closed_since still closed = record {
    came = came_within u v w w a.number a.reader b.reader still.later (later_none w) closed.came;
    known = closed.known;
    at = closed.at;
    newest = closed.newest;
  }

  -- and so it stays
  pub closed_stays : (knows_later : (v w : W) (note : Note) → table.later v w → table.knows v note → table.knows w note)
      (was_later : (v w : W) (k : ℕ) (r : R) (version : ℕ) → table.later v w → table.was_at v k r version → table.was_at w k r version)
      → IsStill table shared v w → IsClosed table u v a b → IsClosed table u w a b
  closed_stays knows_later was_later still closed = record {
    came = came_within u u v w a.number a.reader b.reader (later_none u) still.later closed.came;
    known = λ note said. knows_later v w note still.later (closed.known note said);
    at = λ r version drew. was_later v w a.number b.reader version still.later (closed.at r version drew);
    newest = λ r version drew. subst (λ (n : ℕ). version ≤ n) (ap length (sym still.journal)) (closed.newest r version drew);
  }
