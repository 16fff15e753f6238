use Rattle.std.proofs.Common.{length, ap, arith}
use Rattle.vt_residency.proofs.Passing.{no_loads, few_pinned}
use Rattle.vt_residency.proofs.residency.Residency.new.Goals as goal

pub invariant_of-result : goal.invariant_of-result
invariant_of-result c = record {
  shape = c.in_ok-recency.ensures.shape;
  table = c.in_ok-recency.ensures.table;
  tally = c.in_ok-tally.ensures.tally;
  none = c.in_ok-tally.ensures.none;
  lawful = no_loads c.in_ok-recency.recency c.new-3.result.elements c.new-3.ensures;
  few_loads = omega (arith, ap length c.new-3.ensures);
  few_came = omega (
    arith,
    ap length c.in_ok-came.ensures,
    few_pinned c.args.geometry.now c.args.pinned c.args.frames c.requires.enough_frames
        c.requires.most_frames,
  );
}
