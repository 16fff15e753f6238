use Rattle.std.proofs.Common.{subst}
use Rattle.rtrb.specs.Ring.{received, sent}
use Rattle.vt_outside.specs.Effects.{folder_effect, folder_state}
use Rattle.vt_store.specs.Rounds.{AddsRows, MakesRows}
use Rattle.vt_store.specs.StripSteps.{strips_state}
use Rattle.vt_store.proofs.Rounds.{all_of, kept_made, round_added, round_lost, round_refused}
use Rattle.vt_store.proofs.round.write_round.Goals as goal

pub returns-in_err-added-clause-adds : goal.returns-in_err-added-clause-adds
returns-in_err-added-clause-adds g c =
    let both = c.make_and_add-made in
    let s = c.args.geometry.now in
    let n = c.args.name.now in
    let a = strips_state g.F.File c.args.chain.now c.args.half.now in
    let b = strips_state g.F.File both.new.chain both.new.half in
    let x = received c.args.adding.now.rows in
    let z = received both.new.adding.rows in
    round_refused s n a c.requires.first c.tile.ensures.limits b (folder_state g.D.Folder c.args.folder.now) (folder_state g.D.Folder both.new.folder)
    both.ensures.asks (sent both.new.making.rows) x z c.requires.rings.received both.result.0 both.ensures.front.0 _ c.from_residual.result
    both.ensures.made both.ensures.front.1
    (subst (λ r. AddsRows n x z (folder_effect g.D.Folder c.args.folder.now both.new.folder) r) c.in_err-added.was both.ensures.adds)
    c.from_residual.ensures.1

pub returns-in_err-count-clause-adds : goal.returns-in_err-count-clause-adds
returns-in_err-count-clause-adds g c =
    let both = c.make_and_add-made in
    let s = c.args.geometry.now in
    let n = c.args.name.now in
    let a = strips_state g.F.File c.args.chain.now c.args.half.now in
    let b = strips_state g.F.File both.new.chain both.new.half in
    let x = received c.args.adding.now.rows in
    let z = received both.new.adding.rows in
    round_lost s n a c.requires.first c.tile.ensures.limits b (folder_state g.D.Folder c.args.folder.now) (folder_state g.D.Folder both.new.folder)
    both.ensures.asks (sent both.new.making.rows) x z c.requires.rings.received c.from_residual-in_err-count.result
    (subst (λ r. MakesRows s a b (sent both.new.making.rows) r) c.in_err-count.was both.ensures.made)
    (all_of both.result.1 _ c.in_ok-added.was both.ensures.all)
    (subst (λ r. AddsRows n x z (folder_effect g.D.Folder c.args.folder.now both.new.folder) r) c.in_ok-added.was both.ensures.adds)
    c.from_residual-in_err-count.ensures.1

pub returns-clause-adds : goal.returns-clause-adds
returns-clause-adds g c =
    let both = c.make_and_add-made in
    let s = c.args.geometry.now in
    let n = c.args.name.now in
    let a = strips_state g.F.File c.args.chain.now c.args.half.now in
    let b = strips_state g.F.File both.new.chain both.new.half in
    let x = received c.args.adding.now.rows in
    let z = received both.new.adding.rows in
    round_added s n a c.requires.first c.tile.ensures.limits b (folder_state g.D.Folder c.args.folder.now) (folder_state g.D.Folder both.new.folder)
    both.ensures.asks (sent both.new.making.rows) x z c.requires.rings.received c.in_ok-count.count
    (subst (λ r. MakesRows s a b (sent both.new.making.rows) r) c.in_ok-count.was both.ensures.made)
    (all_of both.result.1 _ c.in_ok-added.was both.ensures.all)
    (subst (λ r. AddsRows n x z (folder_effect g.D.Folder c.args.folder.now both.new.folder) r) c.in_ok-added.was both.ensures.adds)

pub returns-in_err-added-clause-kept : goal.returns-in_err-added-clause-kept
returns-in_err-added-clause-kept g c =
    let both = c.make_and_add-made in
    kept_made c.args.geometry.now (strips_state g.F.File c.args.chain.now c.args.half.now)
    (strips_state g.F.File both.new.chain both.new.half) (sent both.new.making.rows) both.result.0 both.ensures.made

pub returns-in_err-count-clause-kept : goal.returns-in_err-count-clause-kept
returns-in_err-count-clause-kept g c =
    let both = c.make_and_add-made in
    kept_made c.args.geometry.now (strips_state g.F.File c.args.chain.now c.args.half.now)
    (strips_state g.F.File both.new.chain both.new.half) (sent both.new.making.rows) both.result.0 both.ensures.made

pub returns-clause-kept : goal.returns-clause-kept
returns-clause-kept g c =
    let both = c.make_and_add-made in
    kept_made c.args.geometry.now (strips_state g.F.File c.args.chain.now c.args.half.now)
    (strips_state g.F.File both.new.chain both.new.half) (sent both.new.making.rows) both.result.0 both.ensures.made
