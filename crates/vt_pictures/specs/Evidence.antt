-- What is known of pixels by the notes of a look-up.
use Rattle.std.specs.Prelude.{◌≡◌, ℕ, ◌+◌, ◌<◌, Some, None, List, All, Contains, length, slice_index}
use Rattle.vt_draw.specs.Texels.{Source}
use Rattle.vt_pages.specs.Depths.{texel_bytes}
use Rattle.vt_journal.specs.Shape.{Shape}
use Rattle.vt_journal.specs.Pages.{texel_page}
use Rattle.vt_journal.specs.Laws.{IsInside}
use Rattle.vt_draw.specs.Rows.{RowView}
use Rattle.vt_draw.specs.Lookups.{Note, EntryNote, WordNote, place_in_tile}
use Rattle.vt_journal.specs.Changes.{Table}

-- something holds by some notes that are said
pub record IsBy (says : Note → Type 0) (holds : List Note → Type 0) : Type 0 where
  pub notes : List Note
  pub said : All says notes
  pub so : holds notes

-- what is said of a version is true of a page table over a source of texels: a page's entry is the table's, and a word of a frame is that of
-- the texel whose page the table maps to the frame
pub record AreTrue (s : Shape) (source : Source) (m : Table) (version : ℕ) (says : Note → Type 0) : Type 0 where
  pub unmapped : (page : ℕ) → says (EntryNote version page 0) → m page ≡ None
  pub mapped : (page frame : ℕ) → says (EntryNote version page (frame + 1)) → m page ≡ Some frame
  pub words : (frame j x y word : ℕ) → IsInside s j x y → m (texel_page s j x y) ≡ Some frame
      → says (WordNote version frame (place_in_tile s x y) word) → word ≡ source j x y

-- so are the notes of a list
abbrev pub AreTrueNotes : Shape → Source → Table → ℕ → List Note → Type 0
AreTrueNotes s source m version notes = AreTrue s source m version (Contains notes)

-- by what is said, each of the first n pixels of a row is as a filter shows it by notes, at a depth
abbrev pub AreShown : (Shape → ℕ → ℕ → List Note → RowView → ℕ → List ℕ → Type 0) → Shape → ℕ → ℕ → (Note → Type 0) → RowView → ℕ → List ℕ → Type 0
AreShown shown s d version says row n bytes =
    (x : ℕ) → x < n → IsBy says (λ notes. shown s d version notes row x (texel_bytes d bytes x))

-- each page's count was raised by how many texels a filter wants of the page for the first n pixels of a row
abbrev pub AreRaised : (Shape → RowView → ℕ → ℕ → ℕ) → Shape → RowView → ℕ → List ℕ → List ℕ → Type 0
AreRaised wants s row n old new = (p : ℕ) → p < length new → slice_index new p ≡ slice_index old p + wants s row n p
