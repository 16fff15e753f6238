use Rattle.std.proofs.Common.{◌≡◌, ℕ, ◌<◌, slice_index, take}
use Rattle.vt_residency.specs.Tallies.{IsTally, pixels_of}
use Rattle.vt_residency.proofs.feedback.add_listed.Given as goal

abbrev pub invariant-loop-listed : goal.invariant-loop-listed
invariant-loop-listed l = record {
  tally : IsTally l.pages l.tally.counts.items l.tally.pages;
  counts : (p : ℕ) → p < l.pages → slice_index l.tally.counts.items p ≡ pixels_of (take l.listed-index l.list) p;
}
