use Rattle.std.proofs.Common.{refl, subst, arith}
use Rattle.vt_box_filter.specs.HalvedRows.{IsHalvedRow}
use Rattle.vt_box_filter.proofs.PutBoxes.{last_column}
use Rattle.vt_box_filter.proofs.rows.halve_row.Goals as goal

pub returns-then-width-eq1 : goal.returns-then-width-eq1
returns-then-width-eq1 g c =
    last_column g.row.DEPTH c.args.top.now c.args.bottom.now c.halve_pairs.new.out c.put_boxes.new.out c.args.width _ _ c.if-width-eq1.true
    refl refl c.put_boxes.ensures.written c.put_boxes.ensures.kept c.halve_pairs.ensures

pub returns-else-width-eq1 : goal.returns-else-width-eq1
returns-else-width-eq1 g c =
    subst (λ n. IsHalvedRow g.row.DEPTH c.args.top.now c.args.bottom.now c.args.width n c.halve_pairs.new.out)
    (omega (arith, c.if-width-eq1.false)) c.halve_pairs.ensures
