use Rattle.std.proofs.Common.{ℕ, List, arith}
use Rattle.vt_residency.proofs.Tallying.{counts_for_all, tally_none, count_done, count_rest}
use Rattle.vt_residency.proofs.feedback.add_counts.Goals as goal

pub loop-page-init : goal.loop-page-init
loop-page-init c = record {
  tally = c.requires.tally;
  done = λ p below. absurd (omega (arith, below));
  rest = λ p low. tally_none c.args.pages c.args.tally.now.counts.items c.args.tally.now.pages c.requires.tally c.requires.none p;
}

pub loop-page-preserved : goal.loop-page-preserved
loop-page-preserved c =
    let i : ℕ = c.loop-page.page in
    let counts : List ℕ = c.loop-page.tally.counts.items in
    let long = counts_for_all c.args.pages counts c.loop-page.tally.pages c.loop-page.invariant.tally in
    record {
      tally = c.add.ensures.tally;
      done = λ p below. rw c.add.ensures.counts (count_done counts c.args.pixels.now i p (omega (arith, long, c.loop-page-test.true))
          (c.loop-page.invariant.rest i (omega arith)) (let f = (c.type_inv.pixels i).fits in omega (arith, f)) c.loop-page.invariant.done below);
      rest = λ p past. rw c.add.ensures.counts (count_rest counts i p _ (omega (arith, long, c.loop-page-test.true)) c.loop-page.invariant.rest past);
    }
