use Rattle.std.proofs.Common.{◌*◌}
use Rattle.vt_definitions.specs.Depths.{texel_length}
use Rattle.vt_journal.specs.Kept.{entries_of}
use Rattle.vt_pictures.specs.Scenes.{scene_of}
use Rattle.vt_replay_rows.specs.Following.{IsReadOn, IsReplayReady}
use Rattle.vt_replay_rows.specs.Trying.{ShowsRow, AreTried}
use Rattle.vt_replay_rows.proofs.beside.draw_beside.Given as goal

-- some rows were drawn, and all is ready for the others
abbrev pub invariant-loop-round : goal.invariant-loop-round
invariant-loop-round g l = record {
  ready : IsReplayReady g.F.File l.shot.geometry.now l.shot.depth l.table.entries.items l.tiles.size l.tiles.slots.items l.tiles.owners.items
      l.tiles.bytes.items l.store;
  tried : AreTried (texel_length l.shot.depth * l.shot.path.now.width) 0
      (ShowsRow g.P.Filter.under (scene_of l.shot.geometry.now l.shot.depth l.shot.path.now) (entries_of l.table.entries.items)
      (g.F.File.bytes l.fn.store.file) l.shot.picture) l.fn.left l.left l.fn.samples l.samples;
  read : IsReadOn g.F.File l.fn.store l.store;
}
