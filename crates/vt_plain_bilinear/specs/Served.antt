-- A row of a picture that is drawn by blends over a look-up of pages.
use Rattle.std.specs.Prelude.{◌≡◌, ℕ, ◌+◌, ◌-◌, ◌/◌, ◌^◌, ◌<◌, List, length, slice_index, sum_by}
use Rattle.std.specs.List.{range_with_len}
use Rattle.vt_definitions.specs.Depths.{texel_bytes, word_bytes}
use Rattle.vt_pages.specs.Shape.{Shape}
use Rattle.vt_pages.specs.Pages.{texel_page}
use Rattle.vt_camera.specs.Rows.{RowView, row_level}
use Rattle.vt_draw.specs.declared.lookups.Found.{Found}
use Rattle.vt_draw.specs.Lookups.{Note, WordNote, IsFinestFound, place_in_tile}
use Rattle.vt_blend.specs.declared.corners.Corners.{Corners}
use Rattle.vt_blend.specs.declared.blends.Texels.{Texels}
use Rattle.vt_blend.specs.declared.counting.Pages.{Pages}
use Rattle.vt_plain_bilinear.specs.declared.served.Memo.{Memo}
use Rattle.vt_blend.specs.Counting.{times_among}
use Rattle.vt_blend.specs.Corners.{corners_of, weights_of}
use Rattle.vt_blend.specs.Blends.{blended_word}

-- a look-up looks at the same pages and version as before, rests on the same, and says no less
pub record LookupGoesOn {A : Type 0} (s : Shape) (v : ℕ) (says : Note → Type 0) (a : A) (t : Shape) (w : ℕ) (says_more : Note → Type 0) (b : A) : Type 0 where
  pub shape : t ≡ s
  pub version : w ≡ v
  pub said : (note : Note) → says note → says_more note
  pub kept : b ≡ a

-- the place in its tile of the texel of level j that covers the texel in a column and a row of level k
abbrev pub coarser_place : Shape → ℕ → ℕ → ℕ → ℕ → ℕ
coarser_place s k j x y = place_in_tile s (x / 2 ^ (j - k)) (y / 2 ^ (j - k))

-- by what is said, the word of the texel in a column and a row of a level is that of the finest mapped page of its page's line
-- (van Waveren 2012)
pub record IsServed (s : Shape) (version : ℕ) (says : Note → Type 0) (k x y word : ℕ) : Type 0 where
  pub found : Found
  pub finest : IsFinestFound s version says (texel_page s k x y) found
  pub read : says (WordNote version found.slot (coarser_place s k found.level x y) word)

-- by what is said, the words at the four corners of a place of a level are so
pub record AreCornersServed (s : Shape) (version : ℕ) (says : Note → Type 0) (k : ℕ) (at : Corners) (t : Texels) : Type 0 where
  pub first : IsServed s version says k at.column at.line t.first
  pub second : IsServed s version says k at.next_column at.line t.second
  pub third : IsServed s version says k at.column at.next_line t.third
  pub fourth : IsServed s version says k at.next_column at.next_line t.fourth

-- by what is said, the bytes of pixel x of a row are those of the blend of four such words, at a depth
pub record IsBlended (s : Shape) (d version : ℕ) (says : Note → Type 0) (row : RowView) (x : ℕ) (bytes : List ℕ) : Type 0 where
  pub texels : Texels
  pub served : AreCornersServed s version says (row_level row) (corners_of row x) texels
  pub shown : bytes ≡ word_bytes d (blended_word d (weights_of (corners_of row x)) texels)

-- by what is said, each of the first n pixels of a row is so, at a depth
abbrev pub AreBlended : Shape → ℕ → ℕ → (Note → Type 0) → RowView → ℕ → List ℕ → Type 0
AreBlended s d version says row n bytes = (x : ℕ) → x < n → IsBlended s d version says row x (texel_bytes d bytes x)

-- the pages of the texels at the corners of a place of a level
abbrev pub pages_about : Shape → ℕ → Corners → Pages
pages_about s k at = record {
  first = texel_page s k at.column at.line;
  second = texel_page s k at.next_column at.line;
  third = texel_page s k at.column at.next_line;
  fourth = texel_page s k at.next_column at.next_line;
}

-- how many of the four texels of each of the first n pixels of a row are in page p (Mayer 2010)
unfoldable pub texels_wanting : Shape → RowView → ℕ → ℕ → ℕ
texels_wanting s row n p = sum_by (λ x. times_among (pages_about s (row_level row) (corners_of row x)) p) (range_with_len 0 n)

-- each page's count was raised by how many texels of the first n pixels of a row are in the page
abbrev pub AreTexelsCounted : Shape → RowView → ℕ → List ℕ → List ℕ → Type 0
AreTexelsCounted s row n old new = (p : ℕ) → p < length new → slice_index new p ≡ slice_index old p + texels_wanting s row n p

-- four pages are one
pub record AreOne (p : Pages) : Type 0 where
  pub second : p.second ≡ p.first
  pub third : p.third ≡ p.first
  pub fourth : p.fourth ≡ p.first

-- what was found for each of the pages that were asked for last
pub record IsMemo (s : Shape) (version : ℕ) (says : Note → Type 0) (memo : Memo) : Type 0 where
  pub first : IsFinestFound s version says memo.first.page memo.first.found
  pub second : IsFinestFound s version says memo.second.page memo.second.found
  pub third : IsFinestFound s version says memo.third.page memo.third.found
  pub fourth : IsFinestFound s version says memo.fourth.page memo.fourth.found
