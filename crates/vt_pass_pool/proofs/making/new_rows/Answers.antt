use Rattle.std.proofs.Common.{◌+◌, length, refl, ap, sym, subst, rules}
use Rattle.vt_pass_rows.specs.SchedulesRows.{AreRowsInPlace}
use Rattle.vt_pass_pool.proofs.MadeSamplers.{rows_more}
use Rattle.vt_pass_pool.proofs.making.new_rows.Goals as goal

pub loop-row-preserved : goal.loop-row-preserved
loop-row-preserved c =
    let n = c.loop-row.row in
    let line = length c.args.line.now in
    record {
      first = subst (AreRowsInPlace (n + 1) line) (sym c.push.ensures.elements)
          (rows_more line n c.loop-row.rows.elements _ c.loop-row.invariant.first refl (ap length c.in_ok-samples.ensures));
      spare = search rules;
    }
