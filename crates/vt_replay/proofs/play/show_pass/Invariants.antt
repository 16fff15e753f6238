use Rattle.std.proofs.Common.{◌≡◌, ◌⊎◌, ℕ, ◌+◌, ◌*◌, ◌<◌, ◌≤◌, List, Some}
use Rattle.std.specs.Prelude.{slice_get}
use Rattle.vt_definitions.specs.Depths.{texel_length}
use Rattle.vt_journal.specs.declared.changes.RowLine.{RowLine}
use Rattle.vt_journal.specs.Changes.{at}
use Rattle.vt_tiles.specs.Format.{stored}
use Rattle.vt_replay_rows.specs.Scenes.{scene_of}
use Rattle.vt_replay_rows.specs.Replays.{HasPixels}
use Rattle.vt_replay_rows.specs.Following.{IsReadOn}
use Rattle.vt_replay.specs.Playing.{IsStaged}
use Rattle.vt_replay_rows.specs.ReplayLookups.{bytes_row}
use Rattle.vt_replay.proofs.play.show_pass.Given as goal

-- the rows of the versions so far are drawn
abbrev pub invariant-loop-version : goal.invariant-loop-version
invariant-loop-version g l = record {
  staged : IsStaged g.F.File (scene_of l.shot.geometry.now l.shot.depth l.shot.path.now) l.journal.changes l.stage l.store;
  behind : l.stage.table.version ≤ l.version;
  there : (l.version ≡ l.pass.start) ⊎ (l.stage.table.version + 1 ≡ l.version);
  shown : (b : List ℕ) → g.F.File.bytes l.fn.store.file ≡ Some b
      → (y : ℕ) (row : RowLine) → slice_get l.pass.rows.elements y ≡ Some row → row.version < l.version
      → HasPixels l.shot.depth l.shot.path.now.width
      (λ x. g.P.Filter.under (stored b) (scene_of l.shot.geometry.now l.shot.depth l.shot.path.now) (at l.journal.changes row.version) l.shot.picture x y)
      (bytes_row (texel_length l.shot.depth * l.shot.path.now.width) l.stage.samples.items y);
  read : IsReadOn g.F.File l.fn.store l.store;
}
