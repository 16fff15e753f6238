-- Where the texel of a pixel lies in the page that was found for it.
use Rattle.std.proofs.Common.{◌≡◌, ℕ, ◌+◌, ◌-◌, ◌/◌, ◌^◌, ◌<◌, ◌≤◌, sym, ap, ◌∙◌, arith}
use Rattle.std.proofs.lemmas.Nat.{pow-add}
use Rattle.std.proofs.Math.Nat.{div-div-eq-div-mul}
use Rattle.vt_pages.specs.Shape.{Shape}
use Rattle.vt_pages.specs.Pages.{levels_of, level_of, ancestor_of, texel_page, IsPageAt, IsWithinLimits}
use Rattle.vt_pages.specs.Laws.{IsInside}
use Rattle.vt_pages.proofs.Lines.{texel_is_page, lines_follow_places}
use Rattle.vt_camera.specs.Paths.{PathView, camera_at}
use Rattle.vt_camera.specs.Rows.{RowView, row_level, row_place, camera_place}
use Rattle.vt_camera.proofs.LevelLemmas.{inside_level, level_of_within}
use Rattle.vt_camera.proofs.Ground.{ring_place_below}
use Rattle.vt_draw.specs.declared.lookups.Found.{Found}
use Rattle.vt_draw.specs.Lookups.{Note, IsFinestFound}
use Rattle.vt_draw.specs.Shots.{shot_row, wanted_page}

-- halving a place on, from level k to level j
deeper : (place k j : ℕ) → k ≤ j → place / 2 ^ k / 2 ^ (j - k) ≡ place / 2 ^ j
deeper place k j h =
    div-div-eq-div-mul place (2 ^ k) (2 ^ (j - k))
    ∙ ap (λ (n : ℕ). place / n) (sym (pow-add 2 k (j - k)) ∙ ap (λ (i : ℕ). 2 ^ i) (omega arith))

pub place_inside : (s : Shape) (k x y : ℕ) → k < levels_of s → x < s.width → y < s.height → IsInside s k (x / 2 ^ k) (y / 2 ^ k)
place_inside s k x y level column line = (level, inside_level s.width x k column, inside_level s.height y k line)

-- the page of a line at a coarser level covers the same place of level 0
pub line_covers : (s : Shape) (k x y j : ℕ) → 1 ≤ s.tile → k < levels_of s → x < s.width → y < s.height → k ≤ j → j < levels_of s
    → ancestor_of s (texel_page s k (x / 2 ^ k) (y / 2 ^ k)) j ≡ texel_page s j (x / 2 ^ j) (y / 2 ^ j)
line_covers s k x y j some level column line low top =
    let p = texel_page s k (x / 2 ^ k) (y / 2 ^ k) in
    let up : k + (j - k) ≡ j = omega arith in
    let above : ancestor_of s p (k + (j - k)) ≡ texel_page s (k + (j - k)) (x / 2 ^ k / 2 ^ (j - k)) (y / 2 ^ k / 2 ^ (j - k)) =
    (lines_follow_places s some k (x / 2 ^ k) (y / 2 ^ k) (j - k) (place_inside s k x y level column line) (omega arith)).1 in
    ap (ancestor_of s p) (sym up)
    ∙ above
    ∙ ap (λ (i : ℕ). texel_page s i (x / 2 ^ k / 2 ^ (j - k)) (y / 2 ^ k / 2 ^ (j - k))) up
    ∙ ap (λ (i : ℕ). texel_page s j i (y / 2 ^ k / 2 ^ (j - k))) (deeper x k j low)
    ∙ ap (λ (i : ℕ). texel_page s j (x / 2 ^ j) i) (deeper y k j low)

pub found_covers : (s : Shape) (version : ℕ) (says : Note → Type 0) (k x y : ℕ) (found : Found) → 1 ≤ s.tile → k < levels_of s → x < s.width → y < s.height
    → IsFinestFound s version says (texel_page s k (x / 2 ^ k) (y / 2 ^ k)) found → texel_page s found.level (x / 2 ^ found.level) (y / 2 ^ found.level) ≡ found.page
found_covers s version says k x y found some level column line finest =
    let at : level_of s (texel_page s k (x / 2 ^ k) (y / 2 ^ k)) ≡ k =
    (texel_is_page s k (x / 2 ^ k) (y / 2 ^ k) some (place_inside s k x y level column line)).level in
    let no_finer : level_of s (texel_page s k (x / 2 ^ k) (y / 2 ^ k)) ≤ found.level = finest.no_finer in
    let low : k ≤ found.level = omega arith in
    sym (finest.page ∙ line_covers s k x y found.level some level column line low finest.level_inside)

-- what a pixel of a row shows is a texel of the texture, at one of its levels
pub record IsPixelInside (s : Shape) (row : RowView) (x : ℕ) : Type 0 where
  pub level : row_level row < levels_of s
  pub column : (row_place row x).0 < s.width
  pub line : (row_place row x).1 < s.height

pub pixel_inside : (s : Shape) (path : PathView) (picture y x : ℕ) → IsWithinLimits s → IsPixelInside s (shot_row s path picture y) x
unfolding shot_row camera_place
pixel_inside s path picture y x limits = record {
  level = level_of_within (camera_at path picture) y (levels_of s) limits.some_level;
  column = ring_place_below _ s.width limits.least_width;
  line = ring_place_below _ s.height limits.least_height;
}

wanted_at : (s : Shape) (row : RowView) (x : ℕ) → 1 ≤ s.tile → IsPixelInside s row x → IsPageAt s (row_level row) (wanted_page s row x)
unfolding wanted_page
wanted_at s row x some h =
    texel_is_page s (row_level row) _ _ some (place_inside s (row_level row) (row_place row x).0 (row_place row x).1 h.level h.column h.line)

pub wanted_in_chain : (s : Shape) (path : PathView) (picture y x : ℕ) → IsWithinLimits s
    → IsPageAt s (row_level (shot_row s path picture y)) (wanted_page s (shot_row s path picture y) x)
wanted_in_chain s path picture y x limits =
    let tile : 2 ≤ s.tile = limits.least_tile in
    wanted_at s (shot_row s path picture y) x (omega arith) (pixel_inside s path picture y x limits)

wanted_line : (s : Shape) (row : RowView) (x j : ℕ) → 1 ≤ s.tile → IsPixelInside s row x → row_level row ≤ j → j < levels_of s
    → ancestor_of s (wanted_page s row x) j ≡ texel_page s j ((row_place row x).0 / 2 ^ j) ((row_place row x).1 / 2 ^ j)
unfolding wanted_page
wanted_line s row x j some h = line_covers s (row_level row) (row_place row x).0 (row_place row x).1 j some h.level h.column h.line

pub wanted_line_covers : (s : Shape) (path : PathView) (picture y x j : ℕ) → IsWithinLimits s → row_level (shot_row s path picture y) ≤ j → j < levels_of s
    → ancestor_of s (wanted_page s (shot_row s path picture y) x) j
    ≡ texel_page s j ((row_place (shot_row s path picture y) x).0 / 2 ^ j) ((row_place (shot_row s path picture y) x).1 / 2 ^ j)
wanted_line_covers s path picture y x j limits =
    let tile : 2 ≤ s.tile = limits.least_tile in
    wanted_line s (shot_row s path picture y) x j (omega arith) (pixel_inside s path picture y x limits)
