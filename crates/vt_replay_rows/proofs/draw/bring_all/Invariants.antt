use Rattle.vt_replay_rows.specs.Following.{IsReadOn}
use Rattle.vt_replay_rows.specs.ReplayLookups.{AreTiles}
use Rattle.vt_replay_rows.proofs.draw.bring_all.Given as goal

-- the set holds tiles of the store
abbrev pub invariant-loop-page : goal.invariant-loop-page
invariant-loop-page g l = record {
  tiles : AreTiles l.fn.store.shape l.fn.store.depth l.tiles.size l.tiles.slots.items l.tiles.owners.items l.tiles.bytes.items
      (g.F.File.bytes l.fn.store.file);
  read : IsReadOn g.F.File l.fn.store l.store;
}
