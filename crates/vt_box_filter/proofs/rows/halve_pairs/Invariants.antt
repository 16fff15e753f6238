use Rattle.vt_box_filter.specs.HalvedRows.{IsHalvedRow}
use Rattle.vt_box_filter.proofs.rows.halve_pairs.Given as goal

abbrev pub invariant-loop-x : goal.invariant-loop-x
invariant-loop-x g l = IsHalvedRow g.row.DEPTH l.top l.bottom l.width l.x l.out
