use Rattle.std.proofs.Common.{◌≡◌, ◌*◌, length}
use Rattle.std.specs.Prelude.{min}
use Rattle.vt_feedback.specs.Ranks.{ranks_below}
use Rattle.vt_feedback.proofs.ranks.ranks_of.Given as goal

abbrev pub invariant-loop-block : goal.invariant-loop-block
invariant-loop-block l = l.ranks.items ≡ ranks_below l.geometry l.counts (min (l.block * 64) (length l.counts))
