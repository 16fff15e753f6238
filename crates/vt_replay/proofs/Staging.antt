-- A stage and a store, under equal names.
use Rattle.std.proofs.Common.{◌≡◌, ℕ, ◌*◌, List, length, sym, ◌∙◌, subst}
use Rattle.vt_definitions.specs.Depths.{texel_length}
use Rattle.vt_outside.specs.declared.outside.File.{Ghosts as FileMeanings}
use Rattle.vt_pages.specs.Shape.{Shape}
use Rattle.vt_pages.specs.Pages.{pages_of}
use Rattle.vt_camera.specs.Paths.{PathView}
use Rattle.vt_journal.specs.declared.changes.Change.{Change}
use Rattle.vt_tiles.specs.StoreViews.{StoreView, IsStoreIfKnown}
use Rattle.vt_replay_rows.specs.Scenes.{scene_of}
use Rattle.vt_replay_rows.specs.Following.{Follows}
use Rattle.vt_replay.specs.declared.play.Stage.{Stage}
use Rattle.vt_replay.specs.Playing.{IsStaged}
use Rattle.vt_replay_rows.specs.ReplayLookups.{AreTiles}

pub restaged : {F : Type 0} (g : FileMeanings F) (s t : Shape) (d e : ℕ) (path : PathView) (js ks : List Change) (stage : Stage) (store : StoreView F)
    → t ≡ s → e ≡ d → ks ≡ js → IsStaged g (scene_of t e path) ks stage store → IsStaged g (scene_of s d path) js stage store
restaged g s t d e path js ks stage store shape depth changes h =
    subst (λ (r : Shape). IsStaged g (scene_of r d path) js stage store) shape
    (subst (λ (k : ℕ). IsStaged g (scene_of t k path) js stage store) depth
    (subst (λ (l : List Change). IsStaged g (scene_of t e path) l stage store) changes h))

-- the first table and the empty set, with room to draw in
pub staged_first : {F : Type 0} (g : FileMeanings F) (s r : Shape) (d e : ℕ) (path : PathView) (js ks : List Change) (stage : Stage)
    (store : StoreView F) → r ≡ s → e ≡ d → ks ≡ js → store.shape ≡ s → store.depth ≡ d → Follows r ks stage.table.entries.items stage.table.version
    → AreTiles r e stage.tiles.size stage.tiles.slots.items stage.tiles.owners.items stage.tiles.bytes.items (g.bytes store.file)
    → length stage.samples.items ≡ path.height * (texel_length e * path.width) → length stage.counts.items ≡ pages_of r
    → IsStoreIfKnown (g.bytes store.file) s d → IsStaged g (scene_of s d path) js stage store
staged_first g s r d e path js ks stage store shape depth changes own own_depth follows tiles rows pages is =
    restaged g s r d e path js ks stage store shape depth changes
    (record {
      follows = follows;
      shape = own ∙ sym shape;
      depth = own_depth ∙ sym depth;
      tiles = tiles;
      samples_size = rows;
      counts_size = pages;
      store_is = subst (λ (q : Shape). IsStoreIfKnown (g.bytes store.file) q e) (sym shape)
          (subst (λ (n : ℕ). IsStoreIfKnown (g.bytes store.file) s n) (sym depth) is);
    })
