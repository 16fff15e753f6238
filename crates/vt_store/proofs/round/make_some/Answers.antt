use Rattle.std.proofs.Common.{◌∙◌, refl, arith}
use Rattle.std.proofs.lemmas.List.{with_items_is}
use Rattle.rtrb.specs.Ring.{sent}
use Rattle.vt_store.specs.StripSteps.{strips_state}
use Rattle.vt_store.proofs.ReadStrips.{read_more, read_next, read_none, row_known}
use Rattle.vt_store.proofs.RoundRows.{maker_on, rows_more, rows_none}
use Rattle.vt_store.proofs.Rounds.{rows_lost}
use Rattle.vt_store.proofs.round.make_some.Goals as goal

pub loop-strip-init : goal.loop-strip-init
loop-strip-init g c =
    let a = strips_state g.F.File c.args.chain.now c.args.half.now in
    record {
      ring = ((refl, refl, refl, refl), refl);
      strips = read_none c.args.geometry.now a c.requires.first c.strip_count-count.ensures.limits c.requires.spare;
      tiles = rows_none c.args.geometry.now a (sent c.args.making.now.rows) c.requires.sent;
    }

pub make_strip-requires-clause-next : goal.make_strip-requires-clause-next
make_strip-requires-clause-next g c κs within =
    read_next c.args.geometry.now (strips_state g.F.File c.args.chain.now c.args.half.now) c.requires.first c.strip_count-count.ensures.limits
    c.loop-strip.strip (strips_state g.F.File c.loop-strip.chain c.loop-strip.half) c.loop-strip.invariant.strips
    (omega (arith, c.loop-strip-test.true, c.strip_count-count.ensures.count))

pub returns-in_err-make_strip-clause-made : goal.returns-in_err-make_strip-clause-made
returns-in_err-make_strip-clause-made g c =
    rows_lost c.args.geometry.now (strips_state g.F.File c.args.chain.now c.args.half.now) c.requires.first c.strip_count-count.ensures.limits
    c.loop-strip.strip (strips_state g.F.File c.loop-strip.chain c.loop-strip.half)
    (strips_state g.F.File c.make_strip.new.chain c.make_strip.new.half) (sent c.loop-strip.making.rows) (sent c.next_room.new.self.rows)
    c.from_residual.result _ c.loop-strip.invariant.strips c.loop-strip.invariant.tiles c.next_room.ensures.sent
    (omega (arith, c.loop-strip-test.true, c.strip_count-count.ensures.count)) c.in_err-make_strip.ensures.made c.make_strip.ensures.kept
    c.from_residual.ensures.1

pub loop-strip-preserved : goal.loop-strip-preserved
loop-strip-preserved g c =
    let s = c.args.geometry.now in
    let a = strips_state g.F.File c.args.chain.now c.args.half.now in
    let b = strips_state g.F.File c.loop-strip.chain c.loop-strip.half in
    let d = strips_state g.F.File c.make_strip.new.chain c.make_strip.new.half in
    let i = c.loop-strip.strip in
    let was = c.loop-strip.invariant.strips in
    let limits = c.strip_count-count.ensures.limits in
    let made = c.in_ok-make_strip.ensures.made in
    record {
      ring = maker_on c.args.making.now.rows c.loop-strip.making.rows c.push_reserved.new.self c.loop-strip.invariant.ring
          (maker_on c.loop-strip.making.rows c.next_room.new.self.rows c.push_reserved.new.self c.next_room.ensures.ring c.push_reserved.ensures.ring);
      strips = read_more s a c.requires.first limits i b was d c.make_strip.new.tiles
          (omega (arith, c.loop-strip-test.true, c.strip_count-count.ensures.count)) made c.make_strip.ensures.kept c.make_strip.ensures.spare;
      tiles = rows_more s i a (sent c.loop-strip.making.rows) (sent c.next_room.new.self.rows) (sent c.push_reserved.new.self) _ c.make_strip.new.tiles
          c.loop-strip.invariant.tiles (row_known s a c.requires.first limits i b was d c.make_strip.new.tiles made)
          (with_items_is c.in-Some.row c.make_strip.new.tiles (c.make_strip.auto.tiles ∙ c.as_mut_slice.ensures.len))
          c.next_room.ensures.sent c.push_reserved.ensures.sent.0;
    }
