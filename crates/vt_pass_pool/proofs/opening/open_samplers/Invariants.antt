use Rattle.std.proofs.Common.{◌≡◌, ℕ, ◌<◌, ◌≤◌, Some, length}
use Rattle.std.specs.Prelude.{slice_get}
use Rattle.vt_pass_pool.specs.Pools.{IsOpenedSampler}
use Rattle.vt_pass_pool.specs.Stills.{IsStill}
use Rattle.vt_pass_pool.proofs.opening.open_samplers.Given as goal

abbrev pub invariant-loop-i : goal.invariant-loop-i
invariant-loop-i g l = record {
  still : IsStill g.T.PageTable l.table l.fn.writer l.writer;
  room : (n : ℕ) → g.T.PageTable.has_room l.fn.writer n → g.T.PageTable.has_room l.writer n;
  count : length l.samplers ≡ length l.fn.samplers;
  out : (k : ℕ) → l.i ≤ k → slice_get l.samplers k ≡ slice_get l.fn.samplers k;
  home : (k : ℕ) (b : _) → l.i ≤ k → slice_get l.samplers k ≡ Some b → g.T.PageTable.is_home l.writer k b.reader;
  opened : (k : ℕ) (a b : _) → k < l.i → slice_get l.fn.samplers k ≡ Some a → slice_get l.samplers k ≡ Some b
      → IsOpenedSampler g.T.PageTable l.table (g.T.PageTable.shape l.fn.writer) (length (g.T.PageTable.journal l.fn.writer)) k a b;
}
