-- What holds by notes that are said: handed on, and what it shows where they are true.
use Rattle.std.proofs.Common.{◌≡◌, ℕ, List}
use Rattle.std.specs.Prelude.{All}
use Rattle.std.proofs.lemmas.List.Elements.{All-weaker, All-contains}
use Rattle.vt_pages.specs.Depths.{texel_bytes}
use Rattle.vt_draw.specs.Texels.{Source}
use Rattle.vt_journal.specs.Shape.{Shape}
use Rattle.vt_journal.specs.Pages.{IsWithinLimits}
use Rattle.vt_draw.specs.Rows.{RowView}
use Rattle.vt_draw.specs.Lookups.{Note}
use Rattle.vt_journal.specs.Changes.{Table}
use Rattle.vt_pictures.specs.Scenes.{Scene}
use Rattle.vt_pictures.specs.Replays.{scene_row, HasPixels}
use Rattle.vt_pictures.specs.Evidence.{IsBy, AreTrue, AreTrueNotes, AreShown}
use Rattle.vt_pictures.specs.FilterLaws.{IsUnder}

-- what holds by notes that are said holds where no less is said
pub by_more : (says more : Note → Type 0) (holds : List Note → Type 0) → ((note : Note) → says note → more note) → IsBy says holds → IsBy more holds
by_more says more holds on by = record { notes = by.notes; said = All-weaker says more on by.notes by.said; so = by.so }

-- and so does a row
pub shown_by_more : (shown : Shape → ℕ → ℕ → List Note → RowView → ℕ → List ℕ → Type 0) (s : Shape) (d version n : ℕ) (says more : Note → Type 0)
    (row : RowView) (bytes : List ℕ) → ((note : Note) → says note → more note) → AreShown shown s d version says row n bytes
    → AreShown shown s d version more row n bytes
shown_by_more shown s d version n says more row bytes on are x inside =
    by_more says more (λ notes. shown s d version notes row x (texel_bytes d bytes x)) on (are x inside)

-- where all that is said is true, each list of said notes is
pub true_notes : (s : Shape) (source : Source) (m : Table) (version : ℕ) (says : Note → Type 0) (notes : List Note)
    → AreTrue s source m version says → All says notes → AreTrueNotes s source m version notes
true_notes s source m version says notes are said = record {
  unmapped = λ page has. are.unmapped page (All-contains says notes _ said has);
  mapped = λ page frame has. are.mapped page frame (All-contains says notes _ said has);
  words = λ frame j x y word inside maps has. are.words frame j x y word inside maps (All-contains says notes _ said has);
}

-- so a pixel by said notes is that of the table, and so is a row
module _ (shown : Shape → ℕ → ℕ → List Note → RowView → ℕ → List ℕ → Type 0) (under : Source → Scene → Table → ℕ → ℕ → ℕ → List ℕ)
    (law : IsUnder shown under) (source : Source) (scene : Scene) (m : Table) (version : ℕ) (says : Note → Type 0)
    (limits : IsWithinLimits scene.shape) (are : AreTrue scene.shape source m version says) where
  pub pixel_is_under : (i x y : ℕ) (bytes : List ℕ)
      → IsBy says (λ notes. shown scene.shape scene.depth version notes (scene_row scene i y) x bytes) → bytes ≡ under source scene m i x y
  pixel_is_under i x y bytes by =
      law source scene m version i x y by.notes bytes limits (true_notes scene.shape source m version says by.notes are by.said) by.so

  pub row_is_under : (i n y : ℕ) (bytes : List ℕ) → AreShown shown scene.shape scene.depth version says (scene_row scene i y) n bytes
      → HasPixels scene.depth n (λ x. under source scene m i x y) bytes
  row_is_under i n y bytes are_shown x inside = pixel_is_under i x y (texel_bytes scene.depth bytes x) (are_shown x inside)
