use Rattle.std.proofs.Common.{slice_index, ◌∙◌}
use Rattle.vt_residency.proofs.Tallying.{tally_none, pages_more}
use Rattle.vt_residency.proofs.feedback.add_pages.Goals as goal

pub loop-page-init : goal.loop-page-init
loop-page-init c = record {
  tally = c.requires.tally;
  counts = λ p below. tally_none c.args.pages c.args.tally.now.counts.items c.args.tally.now.pages c.requires.tally c.requires.none p;
}

pub loop-page-preserved : goal.loop-page-preserved
loop-page-preserved c = record {
  tally = c.add_one.ensures.tally;
  counts = λ p below. c.add_one.ensures.counts p below
      ∙ pages_more c.args.list.now c.loop-page.page-index p (slice_index c.loop-page.tally.counts.items p) 0 c.loop-page-test.true
      (c.loop-page.invariant.counts p below);
}
