use Rattle.vt_pages.specs.Pages.{pages_of}
use Rattle.vt_residency.proofs.Needing.{none_counted, none_whole}
use Rattle.vt_residency.proofs.needs.count_needed.Goals as goal

pub loop-page-init : goal.loop-page-init
loop-page-init c =
    let n = pages_of c.args.geometry.now in
    record {
      tally = c.requires.tally;
      whole = none_whole n c.args.tally.now.counts.items c.args.tally.now.pages c.requires.tally c.requires.none c.args.geometry.now;
      counted = none_counted n c.args.tally.now.counts.items c.args.tally.now.pages c.requires.tally c.requires.none;
    }
