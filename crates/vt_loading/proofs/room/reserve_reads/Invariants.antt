use Rattle.vt_loading.specs.SameStores.{AreSameStores}
use Rattle.vt_loading.proofs.StoreRooms.{HaveRoom}
use Rattle.vt_loading.proofs.room.reserve_reads.Given as goal

abbrev pub invariant-loop-i : goal.invariant-loop-i
invariant-loop-i g l = record {
  same : AreSameStores g.F.File l.fn.stores l.stores;
  room : HaveRoom g.F.File l.reads l.i l.stores;
}
