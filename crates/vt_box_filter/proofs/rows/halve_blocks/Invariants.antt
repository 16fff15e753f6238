use Rattle.std.proofs.Common.{◌*◌}
use Rattle.vt_box_filter.specs.HalvedRows.{IsHalvedRow}
use Rattle.vt_box_filter.proofs.rows.halve_blocks.Given as goal

abbrev pub invariant-loop-block : goal.invariant-loop-block
invariant-loop-block g l = IsHalvedRow g.row.DEPTH l.top l.bottom l.width (16 * l.block) l.out
