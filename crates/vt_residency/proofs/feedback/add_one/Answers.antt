use Rattle.std.proofs.Common.{List, ℕ, slice_index, arith}
use Rattle.vt_residency.proofs.Tallying.{counts_for_all, set_more, one_none}
use Rattle.vt_residency.proofs.feedback.add_one.Goals as goal

pub returns-then-page-pages-clause-counts : goal.returns-then-page-pages-clause-counts
returns-then-page-pages-clause-counts c = λ p below.
    let counts : List ℕ = c.args.tally.now.counts.items in
    let long = counts_for_all c.args.pages counts c.args.tally.now.pages c.requires.tally in
    rw c.add.ensures.counts (set_more counts c.args.page 1 p (omega (arith, long, c.if-page-pages.true)) (c.requires.tally.most p))

pub returns-else-page-pages-clause-counts : goal.returns-else-page-pages-clause-counts
returns-else-page-pages-clause-counts c = λ p below.
    one_none (slice_index c.args.tally.now.counts.items p) c.args.pages p c.args.page (c.requires.tally.most p) below c.if-page-pages.false
