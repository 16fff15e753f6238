use Rattle.std.proofs.Common.{◌≡◌, ℕ, ◌≤◌, List, Some}
use Rattle.std.specs.Prelude.{slice_get, MatchOption}
use Rattle.vt_tiles.specs.Format.{stored}
use Rattle.vt_outside.specs.Effects.{folder_state, folder_effect}
use Rattle.vt_outside.specs.Expectations.{AsksNone}
use Rattle.vt_replay_rows.proofs.WrittenPictures.{HasPictures}
use Rattle.vt_replay_rows.specs.Scenes.{scene_of}
use Rattle.vt_replay_rows.specs.Following.{IsReadOn}
use Rattle.vt_replay.specs.Playing.{IsStaged}
use Rattle.vt_replay.specs.Replayed.{pictures_of, replay_file}
use Rattle.vt_replay.proofs.play.play_passes.Given as goal

-- the pictures before that of the next pass are written
abbrev pub invariant-loop-i : goal.invariant-loop-i
invariant-loop-i g l = record {
  staged : IsStaged g.D.File.File (scene_of l.fn.store.shape l.fn.store.depth l.path) l.text.changes l.stage l.store;
  turn : MatchOption (slice_get l.text.content.passes l.i) (l.done ≡ pictures_of l.text.content.passes)
      (λ p. (l.done ≡ p.picture) × (l.stage.table.version ≤ p.start));
  asks : AsksNone (folder_effect g.D.Folder l.fn.folder l.folder);
  files : (b : List ℕ) → g.D.File.File.bytes l.fn.store.file ≡ Some b
      → HasPictures l.prefix (replay_file g.P.Filter.under (stored b) (scene_of l.fn.store.shape l.fn.store.depth l.path) l.text.changes l.text.content.passes) l.done
      (folder_state g.D.Folder l.fn.folder) (folder_state g.D.Folder l.folder);
  read : IsReadOn g.D.File.File l.fn.store l.store;
}
