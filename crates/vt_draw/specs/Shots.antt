-- A row of a picture that is drawn over a look-up of pages.
use Rattle.std.specs.Prelude.{◌≡◌, ℕ, ◌+◌, ◌<◌, ◌==◌, if◌then◌else◌, List, length, slice_index, sum_by}
use Rattle.std.specs.List.{range_with_len, count_by}
use Rattle.vt_pages.specs.Depths.{texel_bytes, word_bytes}
use Rattle.vt_pages.specs.Shape.{Shape}
use Rattle.vt_pages.specs.Pages.{levels_of}
use Rattle.vt_camera.specs.declared.surfaces.Surface.{Surface}
use Rattle.vt_camera.specs.Paths.{PathView, camera_at}
use Rattle.vt_camera.specs.Rows.{RowView, row_of, row_level, row_place}
use Rattle.vt_draw.specs.declared.lookups.Found.{Found}
use Rattle.vt_draw.specs.Lookups.{Note, WordNote, IsFinestFound, covering_page, covering_place}

-- a texture that is cut into pages, as a camera sees it: its sides and its number of levels
abbrev pub paged_surface : Shape → Surface
paged_surface s = record { width = s.width; height = s.height; levels = levels_of s }

-- row y of a path's picture of a texture that is cut into pages
unfoldable pub shot_row : Shape → PathView → ℕ → ℕ → RowView
shot_row s path picture y = row_of path (camera_at path picture) y (paged_surface s)

-- the wanted page of pixel x of a row: the page of the texel that it shows at the row's level (van Waveren 2012)
unfoldable pub wanted_page : Shape → RowView → ℕ → ℕ
wanted_page s row x = covering_page s (row_level row) (row_place row x).0 (row_place row x).1

-- how many of the first n pixels of a row want page p (Mayer 2010)
unfoldable pub pixels_wanting : Shape → RowView → ℕ → ℕ → ℕ
pixels_wanting s row n p = count_by (λ x. wanted_page s row x == p) (range_with_len 0 n)

-- how much some rows of a picture want of a page together, by how much the first pixels of a row want of it
unfoldable pub wants_in_rows : (Shape → RowView → ℕ → ℕ → ℕ) → Shape → PathView → ℕ → List ℕ → ℕ → ℕ
wants_in_rows wants s path picture rows p = sum_by (λ y. wants s (shot_row s path picture y) path.width p) rows

-- how many pixels of some rows of a picture want a page (Mayer 2010)
abbrev pub pixels_in_rows : Shape → PathView → ℕ → List ℕ → ℕ → ℕ
pixels_in_rows s path picture rows p = wants_in_rows pixels_wanting s path picture rows p

-- how many pixels of a run that want one page want page p
unfoldable pub run_of : ℕ → ℕ → ℕ → ℕ
run_of page run p = if page == p then run else 0

-- the place in its page's tile of the texel of a level that pixel x of a row shows (van Waveren 2012)
abbrev pub drawn_place : Shape → RowView → ℕ → ℕ → ℕ
drawn_place s row x level = covering_place s level (row_place row x).0 (row_place row x).1

-- by what is said, the bytes of pixel x of a row are those of its texel in the finest mapped page of its wanted page's line,
-- at a depth (van Waveren 2012)
pub record IsDrawn (s : Shape) (d version : ℕ) (says : Note → Type 0) (row : RowView) (x : ℕ) (bytes : List ℕ) : Type 0 where
  pub found : Found
  pub word : ℕ
  pub finest : IsFinestFound s version says (wanted_page s row x) found
  pub read : says (WordNote version found.slot (drawn_place s row x found.level) word)
  pub shown : bytes ≡ word_bytes d word

-- by what is said, each of the first n pixels of a row is drawn, at a depth
abbrev pub AreDrawn : Shape → ℕ → ℕ → (Note → Type 0) → RowView → ℕ → List ℕ → Type 0
AreDrawn s d version says row n bytes = (x : ℕ) → x < n → IsDrawn s d version says row x (texel_bytes d bytes x)

-- each page's count was raised by how many of the first n pixels of a row want the page (Mayer 2010)
abbrev pub AreCounted : Shape → RowView → ℕ → List ℕ → List ℕ → Type 0
AreCounted s row n old new =
    (p : ℕ) → p < length new → slice_index new p ≡ slice_index old p + pixels_wanting s row n p
