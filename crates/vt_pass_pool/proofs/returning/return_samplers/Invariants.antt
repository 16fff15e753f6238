use Rattle.std.proofs.Common.{◌≡◌, ℕ, ◌<◌, ◌≤◌, List, [], Some, false, length, take}
use Rattle.std.specs.Prelude.{slice_get, IsTrue}
use Rattle.vt_pass_pool.specs.Pools.{IsSameSampler, ways_of}
use Rattle.vt_pass_pool.specs.Stills.{IsStill}
use Rattle.vt_pass_pool.specs.Placing.{ArePlaced, all_kept}
use Rattle.vt_pass_pool.specs.Returned.{IsClosed}
use Rattle.vt_pass_pool.proofs.returning.return_samplers.Given as goal

abbrev pub invariant-loop-i : goal.invariant-loop-i
invariant-loop-i g l = record {
  still : IsStill g.T.PageTable l.table l.fn.writer l.writer;
  rows : g.S.Schedule.is_home l.rows l.home;
  count : length l.samplers ≡ length l.fn.samplers;
  out : (k : ℕ) → l.i ≤ k → slice_get l.samplers k ≡ slice_get l.fn.samplers k;
  same : (k : ℕ) (a b : _) → k < l.i → slice_get l.fn.samplers k ≡ Some a → slice_get l.samplers k ≡ Some b → IsSameSampler a b;
  home : (k : ℕ) (b : _) → k < l.i → slice_get l.samplers k ≡ Some b → g.T.PageTable.is_home l.writer k b.reader;
  closed : IsTrue l.known → (k : ℕ) (a b : _) → k < l.i → slice_get l.fn.samplers k ≡ Some a → slice_get l.samplers k ≡ Some b
      → IsClosed g.T.PageTable l.fn.writer l.writer a b;
  gathered : (height line count : ℕ) (firsts : List _) → g.S.Schedule.has_gathered l.rows height line count firsts [] l.fn.home
      → g.S.Schedule.has_gathered l.rows height line count firsts (ways_of (take l.i l.fn.samplers)) l.home;
  placed : ArePlaced (all_kept (take l.i l.fn.samplers)) l.fn.drawn l.drawn;
  refused : l.known ≡ false → g.T.PageTable.refuses;
}
