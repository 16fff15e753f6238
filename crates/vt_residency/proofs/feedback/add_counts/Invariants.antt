use Rattle.std.proofs.Common.{◌≡◌, ℕ, ◌<◌, ◌≤◌, slice_index}
use Rattle.vt_residency.specs.Tallies.{IsTally}
use Rattle.vt_residency.proofs.feedback.add_counts.Given as goal

abbrev pub invariant-loop-page : goal.invariant-loop-page
invariant-loop-page l = record {
  tally : IsTally l.pages l.tally.counts.items l.tally.pages;
  done : (p : ℕ) → p < l.page → slice_index l.tally.counts.items p ≡ slice_index l.pixels p;
  rest : (p : ℕ) → l.page ≤ p → slice_index l.tally.counts.items p ≡ 0;
}
