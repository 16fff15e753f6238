use Rattle.std.proofs.Common.{sym, subst}
use Rattle.rtrb.specs.Ring.{received}
use Rattle.vt_outside.specs.Effects.{folder_effect, folder_state}
use Rattle.vt_store.specs.Rounds.{HoldsRows}
use Rattle.vt_store.proofs.RoundRows.{ring_on, rows_refused, rows_then}
use Rattle.vt_store.proofs.StripSteps.{asks_on}
use Rattle.vt_store.proofs.round.add_made.Goals as goal

pub returns-in_err-add_oldest-clause-adds : goal.returns-in_err-add_oldest-clause-adds
returns-in_err-add_oldest-clause-adds g c =
    let n = c.args.name.now in
    let x = received c.args.adding.now.rows in
    let held = subst (λ rows. HoldsRows n x rows (folder_effect g.D.Folder c.args.folder.now c.loop.folder)) (sym c.has_row.ensures.received)
    c.loop.invariant.adds in
    rows_refused n x (received c.has_row.new.ring) (received c.add_oldest.new.adding.rows)
    (folder_state g.D.Folder c.args.folder.now) (folder_state g.D.Folder c.loop.folder) (folder_state g.D.Folder c.add_oldest.new.folder)
    c.from_residual.result _ c.from_residual.ensures.1 c.loop.invariant.asks held c.in_err-add_oldest.ensures.adds

pub returns-then-not-has_row-clause-adds : goal.returns-then-not-has_row-clause-adds
returns-then-not-has_row-clause-adds g c =
    subst (λ rows. HoldsRows c.args.name.now (received c.args.adding.now.rows) rows (folder_effect g.D.Folder c.args.folder.now c.loop.folder))
    (sym c.has_row.ensures.received) c.loop.invariant.adds

pub loop-preserved : goal.loop-preserved
loop-preserved g c =
    let f = folder_state g.D.Folder c.args.folder.now in
    let h = folder_state g.D.Folder c.loop.folder in
    let k = folder_state g.D.Folder c.add_oldest.new.folder in
    let n = c.args.name.now in
    let x = received c.args.adding.now.rows in
    let held = subst (λ rows. HoldsRows n x rows (folder_effect g.D.Folder c.args.folder.now c.loop.folder)) (sym c.has_row.ensures.received)
    c.loop.invariant.adds in
    record {
      ring = ring_on c.args.adding.now.rows c.loop.adding.rows c.add_oldest.new.adding.rows c.loop.invariant.ring
          (ring_on c.loop.adding.rows c.has_row.new.ring c.add_oldest.new.adding.rows c.has_row.ensures.ring c.add_oldest.ensures.ring);
      adds = rows_then n x (received c.has_row.new.ring) (received c.add_oldest.new.adding.rows) f h k held
          c.in_ok-add_oldest.ensures.adds;
      asks = asks_on f h k c.loop.invariant.asks c.add_oldest.ensures.asks;
    }
