use Rattle.std.proofs.Common.{◌≢◌, ◌<◌, ℕ, Some}
use Rattle.vt_journal.specs.Changes.{newest}
use Rattle.vt_tests_words.proofs.streamer.small.is_unused.Given as goal

abbrev pub invariant-loop-page : goal.invariant-loop-page
invariant-loop-page l = (p : ℕ) → p < l.page → newest l.streamer.writer.journal p ≢ Some l.frame
