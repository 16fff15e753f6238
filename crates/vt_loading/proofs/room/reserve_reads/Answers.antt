use Rattle.std.proofs.Common.{◌<◌, length, subst, arith}
use Rattle.std.proofs.lemmas.List.{get_or_default}
use Rattle.vt_outside.proofs.Refusing.{none_made}
use Rattle.vt_tiles.specs.StoreViews.{StoreView}
use Rattle.vt_loading.specs.SameStores.{IsSameStore}
use Rattle.vt_loading.proofs.StoreRooms.{same_one, same_none, same_more, room_none, room_more, room_all}
use Rattle.vt_loading.proofs.room.reserve_reads.Goals as goal

pub loop-i-init : goal.loop-i-init
loop-i-init g c = record { same = same_none g.F.File c.args.stores.now; room = room_none g.F.File c.args.reads c.args.stores.now }

pub loop-i-preserved : goal.loop-i-preserved
loop-i-preserved g c =
    let k = c.loop-i.i in
    let stores = c.loop-i.stores in
    let now = c.reserve.new.self in
    let e = c.reserve.ensures in
    let same = c.loop-i.auto.stores in
    let low = c.loop-i-test.true in
    let inside : k < length stores = omega (arith, same, low) in
    record {
      same = same_more g.F.File c.args.stores.now stores k now c.loop-i.invariant.same inside
          (subst (λ (s : StoreView _). IsSameStore g.F.File s now) (get_or_default stores k _ now inside)
          (same_one g.F.File _ now e.shape e.depth e.bytes e.name e.asked e.faults));
      room = room_more g.F.File c.args.reads k stores now c.loop-i.invariant.room inside c.in_ok-reserve.ensures.room;
    }

pub returns-in_err-reserve : goal.returns-in_err-reserve
returns-in_err-reserve g c =
    let k = c.loop-i.i in
    let stores = c.loop-i.stores in
    let now = c.reserve.new.self in
    let e = c.reserve.ensures in
    let same = c.loop-i.auto.stores in
    let low = c.loop-i-test.true in
    let inside : k < length stores = omega (arith, same, low) in
    record {
      same = same_more g.F.File c.args.stores.now stores k now c.loop-i.invariant.same inside
          (subst (λ (s : StoreView _). IsSameStore g.F.File s now) (get_or_default stores k _ now inside)
          (same_one g.F.File _ now e.shape e.depth e.bytes e.name e.asked e.faults));
      room = none_made c.from_residual.result _ _ c.from_residual.ensures.1;
    }

pub returns : goal.returns
returns g c = record {
  same = c.loop-i.invariant.same;
  room = room_all g.F.File c.args.reads c.loop-i.i c.loop-i.stores c.loop-i.invariant.room
      (let same = c.loop-i.auto.stores in let all = c.loop-i-test.false in omega (arith, same, all));
}
