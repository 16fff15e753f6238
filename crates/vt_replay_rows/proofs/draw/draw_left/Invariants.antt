use Rattle.std.proofs.Common.{ℕ, ◌*◌, ◌<◌, ◌≤◌, length}
use Rattle.std.specs.Prelude.{slice_index}
use Rattle.vt_definitions.specs.Depths.{texel_length}
use Rattle.vt_journal.specs.Kept.{entries_of}
use Rattle.vt_pictures.specs.Scenes.{scene_of}
use Rattle.vt_replay_rows.specs.Following.{IsReadOn, IsReplayReady}
use Rattle.vt_replay_rows.specs.Trying.{ShowsRow, IsDone, AreTried}
use Rattle.vt_replay_rows.proofs.draw.draw_left.Given as goal

-- of the rows so far none is left, and those that were left are drawn
abbrev pub invariant-loop-y : goal.invariant-loop-y
invariant-loop-y g l = record {
  counted : (p : ℕ) → p < length l.counts → slice_index l.counts p ≤ l.y * (4 * l.shot.path.now.width);
  ready : IsReplayReady g.F.File l.shot.geometry.now l.shot.depth l.table.entries.items l.tiles.size l.tiles.slots.items l.tiles.owners.items
      l.tiles.bytes.items l.store;
  tried : AreTried (texel_length l.shot.depth * l.shot.path.now.width) 0
      (ShowsRow g.P.Filter.under (scene_of l.shot.geometry.now l.shot.depth l.shot.path.now) (entries_of l.table.entries.items)
      (g.F.File.bytes l.fn.store.file) l.shot.picture) l.fn.left l.left l.fn.samples l.samples;
  done : (k : ℕ) → k < l.y → IsDone l.left k;
  read : IsReadOn g.F.File l.fn.store l.store;
}
