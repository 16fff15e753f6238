-- Rows that were drawn by what a writer knows are the replay of its journal.
use Rattle.std.proofs.Common.{◌≡◌, ℕ, List, [], get_or, Option, Some, None, refl}
use Rattle.std.specs.Prelude.{slice_get, IfSome}
use Rattle.vt_load.specs.Shape.{Shape}
use Rattle.vt_pass_pool.specs.Pages.{IsWithinLimits}
use Rattle.vt_load.specs.Format.{stored}
use Rattle.vt_pass_pool.specs.Texels.{Source}
use Rattle.vt_load.specs.StoreViews.{IsStore, IsStoreIfKnown}
use Rattle.vt_pass_pool.specs.Changes.{Table, at}
use Rattle.vt_pass_pool.specs.DrawLookups.{Note}
use Rattle.vt_pass_pool.specs.Evidence.{AreShown}
use Rattle.vt_pass_pool.specs.FilterLaws.{IsUnder}
use Rattle.vt_pass_pool.specs.JournalTypes.changes.RowLine.{RowLine}
use Rattle.vt_pass_pool.specs.Replays.{HasPixels, AreReplayed}
use Rattle.vt_pass_pool.specs.Rows.{RowView}
use Rattle.vt_pass_pool.specs.Scenes.{Scene}
use Rattle.vt_pass_pool.specs.Shots.{shot_row}
use Rattle.vt_pass_pool.proofs.Handed.{row_is_under}
use Rattle.vt_pass_pool.specs.PageTableTypes.table.PageTable.{Ghosts as TableMeanings}
use Rattle.vt_pass_pool.specs.Fills.{AreStoredPages}
use Rattle.vt_pass_machine.specs.Machines.{IsSound}

module _ {T H R W : Type 0} (shown : Shape → ℕ → ℕ → List Note → RowView → ℕ → List ℕ → Type 0)
    (under : Source → Scene → Table → ℕ → ℕ → ℕ → List ℕ) (law : IsUnder shown under) (table : TableMeanings T H R W) (w : W) (sound : IsSound table w)
    (scene : Scene) (limits : IsWithinLimits scene.shape) where
  row_replayed : (b : List ℕ) → IsStore b scene.shape scene.depth → AreStoredPages scene.shape scene.depth (Some b) (table.is_filled w)
      → (version i n y : ℕ) (bytes : List ℕ)
      → AreShown shown scene.shape scene.depth version (table.knows w) (shot_row scene.shape scene.path i y) n bytes
      → HasPixels scene.depth n (λ x. under (stored b) scene (at (table.journal w) version) i x y) bytes
  row_replayed b store are version i n y bytes drawn =
      row_is_under shown under law (stored b) scene (at (table.journal w) version) version (table.knows w) limits
      (sound scene.shape scene.depth b version limits store are) i n y bytes drawn

  -- the rows of a picture
  pub picture_replayed : (known : Option (List ℕ)) (i n : ℕ) (lines : List RowLine) (rows : List (List ℕ))
      → IsStoreIfKnown known scene.shape scene.depth → AreStoredPages scene.shape scene.depth known (table.is_filled w)
      → ((y : ℕ) (line : RowLine) → slice_get lines y ≡ Some line
      → AreShown shown scene.shape scene.depth line.version (table.knows w) (shot_row scene.shape scene.path i y) n (get_or rows y []))
      → IfSome known (λ b. AreReplayed scene.depth n (λ m x y. under (stored b) scene m i x y) (table.journal w) lines rows)
  picture_replayed None i n lines rows store are drawn = tt
  picture_replayed (Some b) i n lines rows store are drawn = λ y line there.
      row_replayed b (store.each b refl) are line.version i n y (get_or rows y []) (drawn y line there)
