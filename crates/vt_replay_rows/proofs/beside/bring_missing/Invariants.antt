use Rattle.vt_replay_rows.specs.Following.{IsReadOn}
use Rattle.vt_replay_rows.specs.ReplayLookups.{AreTiles}
use Rattle.vt_replay_rows.proofs.beside.bring_missing.Given as goal

-- the set holds tiles of the store
abbrev pub invariant-loop-part : goal.invariant-loop-part
invariant-loop-part g l = record {
  tiles : AreTiles l.fn.store.shape l.fn.store.depth l.tiles.size l.tiles.slots.items l.tiles.owners.items l.tiles.bytes.items
      (g.F.File.bytes l.fn.store.file);
  read : IsReadOn g.F.File l.fn.store l.store;
}
