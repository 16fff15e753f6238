use Rattle.std.proofs.Common.{length, arith}
use Rattle.vt_plain.proofs.PartsDrawn.{row_more, row_within}
use Rattle.vt_plain.proofs.parts.draw_rows.Goals as goal

pub loop-y-preserved : goal.loop-y-preserved
loop-y-preserved g c =
    let y = c.loop-y.y in
    let first = c.args.first in
    let fits = row_within (g.R.Rows.fits c.args.rows.now) first c.args.end (length c.args.out.now) c.args.size y c.requires (omega arith) (omega arith) in
    row_more (g.R.Rows.bytes c.args.rows.now) first y _ c.args.size c.loop-y.out c.draw_row.new.out (omega arith)
    (omega (arith, c.draw_row.auto.out, fits, c.loop-y.auto.out)) (omega (arith, fits, c.loop-y.auto.out)) c.draw_row.ensures c.loop-y.invariant
