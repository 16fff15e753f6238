use Rattle.std.proofs.Common.{ℕ, ◌<◌, ◌≤◌, length}
use Rattle.std.specs.Prelude.{slice_index}
use Rattle.vt_replay_rows.specs.Following.{IsReadOn, IsReplayReady}
use Rattle.vt_replay_rows.proofs.draw.draw_line.Given as goal

-- all is ready for the row again
abbrev pub invariant-loop-round : goal.invariant-loop-round
invariant-loop-round g l = record {
  ready : IsReplayReady g.F.File l.shot.geometry.now l.shot.depth l.table.entries.items l.tiles.size l.tiles.slots.items l.tiles.owners.items
      l.tiles.bytes.items l.store;
  counted : (p : ℕ) → p < length l.counts → slice_index l.counts p ≤ slice_index l.fn.counts p;
  read : IsReadOn g.F.File l.fn.store l.store;
}
