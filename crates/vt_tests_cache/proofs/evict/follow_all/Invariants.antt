use Rattle.std.proofs.Common.{◌≡◌}
use Rattle.vt_tests_cache.proofs.evict.follow_all.Given as goal

abbrev pub invariant-loop-pass : goal.invariant-loop-pass
invariant-loop-pass l = l.recency.shape ≡ l.geometry
