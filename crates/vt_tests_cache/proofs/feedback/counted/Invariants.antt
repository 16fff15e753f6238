use Rattle.std.proofs.Common.{ℕ, ◌<◌, slice_index}
use Rattle.vt_tests_cache.proofs.feedback.counted.Given as goal

abbrev pub invariant-loop-page : goal.invariant-loop-page
invariant-loop-page l = (p : ℕ) → slice_index l.counts p < 1000
