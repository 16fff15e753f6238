-- What holds of every filter, by what it wants of pages, what it shows by notes, and its pixels under a page table and without one.
use Rattle.std.specs.Prelude.{◌≡◌, ℕ, ◌*◌, ◌<◌, ◌≤◌, IsSome, List}
use Rattle.std.specs.List.{range_with_len}
use Rattle.vt_draw.specs.Texels.{Source}
use Rattle.vt_journal.specs.Shape.{Shape}
use Rattle.vt_journal.specs.Pages.{pages_of, root_of, IsWithinLimits}
use Rattle.vt_draw.specs.Rows.{RowView}
use Rattle.vt_draw.specs.Lookups.{Note}
use Rattle.vt_draw.specs.Shots.{wants_in_rows}
use Rattle.vt_journal.specs.Changes.{Table}
use Rattle.vt_pictures.specs.Scenes.{Scene}
use Rattle.vt_pictures.specs.Replays.{scene_row}
use Rattle.vt_pictures.specs.Evidence.{AreTrueNotes}

-- by notes that are true of a table over a source, a pixel is that of the table
abbrev pub IsUnder : (Shape → ℕ → ℕ → List Note → RowView → ℕ → List ℕ → Type 0) → (Source → Scene → Table → ℕ → ℕ → ℕ → List ℕ) → Type 0
IsUnder shown under = (source : Source) (scene : Scene) (m : Table) (version i x y : ℕ) (notes : List Note) (bytes : List ℕ)
    → IsWithinLimits scene.shape → AreTrueNotes scene.shape source m version notes
    → shown scene.shape scene.depth version notes (scene_row scene i y) x bytes → bytes ≡ under source scene m i x y

-- how many texels a picture of a scene wants of a page
abbrev pub picture_wants : (Shape → RowView → ℕ → ℕ → ℕ) → Scene → ℕ → ℕ → ℕ
picture_wants wants scene i p = wants_in_rows wants scene.shape scene.path i (range_with_len 0 scene.path.height) p

-- where a table maps the root and each page that the picture wants, a pixel under it is that without one
abbrev pub IsPlain : (Shape → RowView → ℕ → ℕ → ℕ) → (Source → Scene → Table → ℕ → ℕ → ℕ → List ℕ) → (Source → Scene → ℕ → ℕ → ℕ → List ℕ)
    → Type 0
IsPlain wants under plain = (source : Source) (scene : Scene) (m : Table) (i x y : ℕ) → IsWithinLimits scene.shape
    → x < scene.path.width → y < scene.path.height → IsSome (m (root_of scene.shape))
    → ((p : ℕ) → p < pages_of scene.shape → 1 ≤ picture_wants wants scene i p → IsSome (m p))
    → under source scene m i x y ≡ plain source scene i x y

-- so many pixels want at most four texels each
abbrev pub WantsFew : (Shape → RowView → ℕ → ℕ → ℕ) → Type 0
WantsFew wants = (s : Shape) (row : RowView) (n p : ℕ) → wants s row n p ≤ 4 * n
