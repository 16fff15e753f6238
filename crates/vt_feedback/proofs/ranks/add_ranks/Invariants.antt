use Rattle.std.proofs.Common.{◌≡◌}
use Rattle.vt_feedback.specs.Ranks.{ranks_below}
use Rattle.vt_feedback.proofs.ranks.add_ranks.Given as goal

abbrev pub invariant-loop-page : goal.invariant-loop-page
invariant-loop-page l = l.ranks.items ≡ ranks_below l.geometry l.counts l.page
