use Rattle.std.proofs.Common.{length}
use Rattle.vt_residency.specs.Tallies.{IsTally}
use Rattle.vt_residency.proofs.tally.Tally.clear.Given as goal

abbrev pub invariant-loop-page : goal.invariant-loop-page
invariant-loop-page l = IsTally l.pages l.self.counts.items l.self.pages

abbrev pub decreases-loop-page : goal.decreases-loop-page
decreases-loop-page l = length l.self.pages.elements
