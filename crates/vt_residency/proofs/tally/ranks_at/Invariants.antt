use Rattle.std.proofs.Common.{◌≡◌, map, take}
use Rattle.vt_feedback.specs.Ranks.{rank_of}
use Rattle.vt_residency.proofs.tally.ranks_at.Given as goal

abbrev pub invariant-loop-page : goal.invariant-loop-page
invariant-loop-page l = l.ranks.items ≡ map (rank_of l.geometry l.counts) (take l.page-index l.pages)
