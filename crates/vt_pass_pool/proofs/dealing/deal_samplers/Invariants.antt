use Rattle.std.proofs.Common.{◌≡◌, ℕ, ◌<◌, ◌≤◌, [], Some, length, take}
use Rattle.std.specs.Prelude.{slice_get}
use Rattle.vt_pass_pool.specs.Pools.{IsSameSampler, HasWay, ways_of}
use Rattle.vt_pass_pool.proofs.dealing.deal_samplers.Given as goal

abbrev pub invariant-loop-i : goal.invariant-loop-i
invariant-loop-i g l = record {
  rows : g.S.Schedule.is_home l.rows l.home;
  count : length l.samplers ≡ length l.fn.samplers;
  out : (k : ℕ) → l.i ≤ k → slice_get l.samplers k ≡ slice_get l.fn.samplers k;
  same : (k : ℕ) (a b : _) → k < l.i → slice_get l.fn.samplers k ≡ Some a → slice_get l.samplers k ≡ Some b → IsSameSampler a b;
  readers : (k : ℕ) (a b : _) → k < l.i → slice_get l.fn.samplers k ≡ Some a → slice_get l.samplers k ≡ Some b → b.reader ≡ a.reader;
  ways : (line : ℕ) → g.S.Schedule.has_dealt l.rows l.height line l.count [] l.fn.home → (k : ℕ) (b : _) → k < l.i
      → slice_get l.samplers k ≡ Some b → HasWay g.S.Schedule l.rows l.height line b;
  dealt : (line : ℕ) → g.S.Schedule.has_dealt l.rows l.height line l.count [] l.fn.home
      → g.S.Schedule.has_dealt l.rows l.height line l.count (ways_of (take l.i l.samplers)) l.home;
}
