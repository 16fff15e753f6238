use Rattle.std.proofs.Common.{◌≡◌, ℕ, ◌<◌, map, slice_index, take}
use Rattle.vt_residency.specs.Tallies.{IsTally, pixels_of, one_pixel}
use Rattle.vt_residency.proofs.feedback.add_pages.Given as goal

abbrev pub invariant-loop-page : goal.invariant-loop-page
invariant-loop-page l = record {
  tally : IsTally l.pages l.tally.counts.items l.tally.pages;
  counts : (p : ℕ) → p < l.pages → slice_index l.tally.counts.items p ≡ pixels_of (map one_pixel (take l.page-index l.list)) p;
}
