use Rattle.std.proofs.Common.{◌∙◌, List, ap, arith}
use Rattle.std.proofs.lemmas.List.{with_items_is}
use Rattle.std.specs.Prelude.{option_map}
use Rattle.vt_outside.specs.Effects.{folder_effect, folder_state}
use Rattle.vt_outside.specs.Files.{with_appended}
use Rattle.vt_store.specs.StripSteps.{strips_state}
use Rattle.vt_store.proofs.OneStep.{front_in}
use Rattle.vt_store.proofs.ReadStrips.{read_next}
use Rattle.vt_store.proofs.StripSteps.{added_all, ahead_added, ahead_begun, between, next_lost, row_refused, stopped_by}
use Rattle.vt_store.proofs.round.write_by_round.Goals as goal

pub make_strip-requires-clause-next : goal.make_strip-requires-clause-next
make_strip-requires-clause-next g c κs within =
    read_next c.args.geometry.now (strips_state g.F.File c.args.chain.now c.args.half.now) c.requires.first c.strip_count-count.ensures.limits
    c.loop-strip.strip (strips_state g.F.File c.loop-strip.chain c.loop-strip.half) c.loop-strip.invariant.added.strips
    (omega (arith, c.loop-strip-test.true, c.strip_count-count.ensures.count))

pub returns-in_err-make_strip-clause-level : goal.returns-in_err-make_strip-clause-level
returns-in_err-make_strip-clause-level g c =
    let s = c.args.geometry.now in
    let n = c.args.name.now in
    let a = strips_state g.F.File c.args.chain.now c.args.half.now in
    let b = strips_state g.F.File c.loop-strip.chain c.loop-strip.half in
    let d = strips_state g.F.File c.make_strip.new.chain c.make_strip.new.half in
    let f = folder_state g.D.Folder c.args.folder.now in
    let h = folder_state g.D.Folder c.loop-strip.folder in
    stopped_by s n a d (between f h) c.from_residual-in_err-make_strip.result _ c.from_residual-in_err-make_strip.ensures.1
    (next_lost s n a c.requires.first c.strip_count-count.ensures.limits c.loop-strip.strip b f h c.loop-strip.invariant.added d
    (omega (arith, c.loop-strip-test.true, c.strip_count-count.ensures.count)) c.in_err-make_strip.ensures.made)

pub returns-in_err-add_row-clause-level : goal.returns-in_err-add_row-clause-level
returns-in_err-add_row-clause-level g c =
    let s = c.args.geometry.now in
    let n = c.args.name.now in
    let a = strips_state g.F.File c.args.chain.now c.args.half.now in
    let b = strips_state g.F.File c.loop-strip.chain c.loop-strip.half in
    let d = strips_state g.F.File c.make_strip.new.chain c.make_strip.new.half in
    let f = folder_state g.D.Folder c.args.folder.now in
    let h = folder_state g.D.Folder c.loop-strip.folder in
    let limits = c.strip_count-count.ensures.limits in
    let made = with_items_is c.loop-strip.front c.make_strip.new.tiles (c.make_strip.auto.tiles ∙ c.as_mut_slice.ensures.len) in
    row_refused s n a c.requires.first limits c.loop-strip.strip d f h c.make_strip.new.tiles
    (ahead_begun s n a c.requires.first limits c.loop-strip.strip b f h c.loop-strip.invariant.added d c.make_strip.new.tiles
    (omega (arith, c.loop-strip-test.true, c.strip_count-count.ensures.count)) c.in_ok-make_strip.ensures.made c.make_strip.ensures.kept
    c.make_strip.ensures.spare)
    (folder_state g.D.Folder c.add_row.new.folder) _ c.from_residual-in_err-add_row.result c.from_residual-in_err-add_row.ensures.1
    (front_in n c.as_slice.result.now c.make_strip.new.tiles (folder_effect g.D.Folder c.loop-strip.folder c.add_row.new.folder) _
    (c.as_slice.ensures.value ∙ made) c.in_err-add_row.ensures.added)

pub loop-strip-preserved : goal.loop-strip-preserved
loop-strip-preserved g c =
    let s = c.args.geometry.now in
    let n = c.args.name.now in
    let a = strips_state g.F.File c.args.chain.now c.args.half.now in
    let b = strips_state g.F.File c.loop-strip.chain c.loop-strip.half in
    let d = strips_state g.F.File c.make_strip.new.chain c.make_strip.new.half in
    let f = folder_state g.D.Folder c.args.folder.now in
    let h = folder_state g.D.Folder c.loop-strip.folder in
    let limits = c.strip_count-count.ensures.limits in
    let made = with_items_is c.loop-strip.front c.make_strip.new.tiles (c.make_strip.auto.tiles ∙ c.as_mut_slice.ensures.len) in
    record {
      added = ahead_added s n a c.requires.first limits c.loop-strip.strip d f h c.make_strip.new.tiles
          (ahead_begun s n a c.requires.first limits c.loop-strip.strip b f h c.loop-strip.invariant.added d c.make_strip.new.tiles
          (omega (arith, c.loop-strip-test.true, c.strip_count-count.ensures.count)) c.in_ok-make_strip.ensures.made c.make_strip.ensures.kept
          c.make_strip.ensures.spare)
          (folder_state g.D.Folder c.add_row.new.folder)
          (c.in_ok-add_row.ensures.added
          ∙ ap (λ (t : List _). option_map (with_appended n t) (g.D.Folder.files c.loop-strip.folder)) (c.as_slice.ensures.value ∙ made))
          c.add_row.ensures.asks;
      front = c.loop-strip.invariant.front;
    }

pub returns-clause-level : goal.returns-clause-level
returns-clause-level g c =
    added_all c.args.geometry.now c.args.name.now (strips_state g.F.File c.args.chain.now c.args.half.now) c.requires.first
    c.strip_count-count.ensures.limits c.loop-strip.strip (strips_state g.F.File c.loop-strip.chain c.loop-strip.half)
    (folder_state g.D.Folder c.args.folder.now) (folder_state g.D.Folder c.loop-strip.folder) c.loop-strip.invariant.added
    (omega (arith, c.loop-strip-test.false, c.loop-strip.invariant.added.strips.few, c.strip_count-count.ensures.count))
