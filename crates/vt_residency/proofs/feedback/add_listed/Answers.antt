use Rattle.std.proofs.Common.{ℕ, List, get_or, slice_index, ◌∙◌, arith}
use Rattle.vt_residency.specs.declared.feedback.Listed.{Listed}
use Rattle.vt_residency.proofs.Tallying.{counts_for_all, tally_none, set_more, listed_more}
use Rattle.vt_residency.proofs.feedback.add_listed.Goals as goal

pub loop-listed-init : goal.loop-listed-init
loop-listed-init c = record {
  tally = c.requires.tally;
  counts = λ p below. tally_none c.args.pages c.args.tally.now.counts.items c.args.tally.now.pages c.requires.tally c.requires.none p;
}

pub loop-listed-preserved : goal.loop-listed-preserved
loop-listed-preserved c =
    let i : ℕ = c.loop-listed.listed-index in
    let counts : List ℕ = c.loop-listed.tally.counts.items in
    let d : Listed = record { page = 0; pixels = 0 } in
    let w : Listed = get_or c.args.list.now i d in
    let long = counts_for_all c.args.pages counts c.loop-listed.tally.pages c.loop-listed.invariant.tally in
    let inside = c.requires.inside i d c.loop-listed-test.true in
    record {
      tally = c.add.ensures.tally;
      counts = λ p below. rw c.add.ensures.counts (set_more counts w.page w.pixels p (omega (arith, long, inside)) (c.loop-listed.invariant.tally.most p)
          ∙ listed_more c.args.list.now i p (slice_index counts p) d c.loop-listed-test.true (c.loop-listed.invariant.counts p below));
    }
