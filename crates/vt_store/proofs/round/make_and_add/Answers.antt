use Rattle.std.proofs.Common.{sym, subst}
use Rattle.rtrb.specs.Ring.{received}
use Rattle.vt_outside.specs.Effects.{folder_effect, folder_state}
use Rattle.vt_store.specs.Rounds.{AddsRows, HoldsRowsUpTo}
use Rattle.vt_store.proofs.RoundRows.{rows_on}
use Rattle.vt_store.proofs.round.make_and_add.Goals as goal

pub returns-in-Ok-clause-adds : goal.returns-in-Ok-clause-adds
returns-in-Ok-clause-adds g c =
    let n = c.args.name.now in
    let x = received c.args.adding.now.rows in
    let y = received c.run_both-made.new.adding.rows in
    rows_on n x y (received c.add_left.new.adding.rows) (folder_state g.D.Folder c.args.folder.now) (folder_state g.D.Folder c.run_both-made.new.folder)
    (folder_state g.D.Folder c.add_left.new.folder) c.add_left.result c.run_both-made.ensures.asks
    (subst (λ r. AddsRows n x y (folder_effect g.D.Folder c.args.folder.now c.run_both-made.new.folder) r) c.in-Ok.is c.run_both-made.ensures.adds)
    c.add_left.ensures.adds

pub returns-in-Err-clause-adds : goal.returns-in-Err-clause-adds
returns-in-Err-clause-adds g c =
    let n = c.args.name.now in
    let x = received c.args.adding.now.rows in
    let folder = folder_effect g.D.Folder c.args.folder.now c.run_both-made.new.folder in
    subst (λ rows. HoldsRowsUpTo n x rows folder c.in-Err.refused) (sym c.slots_beside.ensures.looked.1)
    (subst (λ r. AddsRows n x (received c.run_both-made.new.adding.rows) folder r) c.in-Err.is c.run_both-made.ensures.adds)
