use Rattle.std.proofs.Common.{◌≡◌, ℕ, take}
use Rattle.vt_pages.specs.Pages.{pages_of}
use Rattle.vt_residency.specs.Needs.{AreWholeLines, is_counted, is_needed}
use Rattle.vt_residency.specs.Tallies.{IsTally}
use Rattle.vt_residency.proofs.needs.count_needed.Given as goal

abbrev pub invariant-loop-page : goal.invariant-loop-page
invariant-loop-page l = record {
  tally : IsTally (pages_of l.geometry) l.tally.counts.items l.tally.pages;
  whole : AreWholeLines l.geometry l.tally.counts.items;
  counted : (p : ℕ) → is_counted l.tally.counts.items p ≡ is_needed l.geometry (take l.page-index l.wanted) p;
}
