use Rattle.std.proofs.Common.{◌∙◌, arith}
use Rattle.rtrb.specs.Ring.{received}
use Rattle.vt_outside.specs.Effects.{folder_state}
use Rattle.vt_store.proofs.RoundRows.{rows_refused, rows_then}
use Rattle.vt_store.proofs.StripSteps.{asks_on}
use Rattle.vt_store.proofs.round.add_left.Goals as goal

pub returns-in_err-add_oldest-clause-adds : goal.returns-in_err-add_oldest-clause-adds
returns-in_err-add_oldest-clause-adds g c =
    rows_refused c.args.name.now (received c.args.adding.now.rows) (received c.loop.adding.rows) (received c.add_oldest.new.adding.rows)
    (folder_state g.D.Folder c.args.folder.now) (folder_state g.D.Folder c.loop.folder) (folder_state g.D.Folder c.add_oldest.new.folder)
    c.from_residual.result _ c.from_residual.ensures.1 c.loop.invariant.asks c.loop.invariant.adds c.in_err-add_oldest.ensures.adds

pub loop-preserved : goal.loop-preserved
loop-preserved g c =
    let f = folder_state g.D.Folder c.args.folder.now in
    let h = folder_state g.D.Folder c.loop.folder in
    let k = folder_state g.D.Folder c.add_oldest.new.folder in
    record {
      fifo = c.add_oldest.ensures.order ∙ c.loop.invariant.fifo;
      left = omega (arith, c.add_oldest.ensures.fewer, c.loop.invariant.left);
      adds = rows_then c.args.name.now (received c.args.adding.now.rows) (received c.loop.adding.rows) (received c.add_oldest.new.adding.rows)
          f h k c.loop.invariant.adds c.in_ok-add_oldest.ensures.adds;
      asks = asks_on f h k c.loop.invariant.asks c.add_oldest.ensures.asks;
    }
