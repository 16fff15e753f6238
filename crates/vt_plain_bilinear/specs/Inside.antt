-- Where the corners of a place lie: inside their level, in the page that serves them.
use Rattle.std.proofs.Common.{◌≡◌, ℕ, ◌+◌, ◌-◌, ◌*◌, ◌/◌, ◌^◌, ◌<◌, ◌≤◌, sym, ◌∙◌, subst, arith}
use Rattle.vt_definitions.specs.Sides.{side}
use Rattle.vt_pages.specs.Shape.{Shape}
use Rattle.vt_pages.specs.Pages.{levels_of, level_of, ancestor_of, texel_page, IsWithinLimits}
use Rattle.vt_pages.specs.Laws.{IsInside}
use Rattle.vt_pages.proofs.Lines.{texel_is_page, lines_follow_places}
use Rattle.vt_camera.specs.Paths.{PathView, camera_at}
use Rattle.vt_camera.specs.Rows.{row_level, row_spot, camera_spot}
use Rattle.vt_camera.proofs.LevelLemmas.{level_of_within}
use Rattle.vt_camera.proofs.Ground.{ring_place_below}
use Rattle.vt_draw.specs.declared.lookups.Found.{Found}
use Rattle.vt_draw.specs.Lookups.{Note, IsFinestFound}
use Rattle.vt_draw.specs.Shots.{shot_row}
use Rattle.vt_blend.specs.Corners.{corners_of, AreInside}
use Rattle.vt_blend.proofs.Inside.{texel_inside, corners_inside}

-- the level of a row of a picture is one of the chain's
pub row_level_inside : (s : Shape) (path : PathView) (picture y : ℕ) → IsWithinLimits s → row_level (shot_row s path picture y) < levels_of s
unfolding shot_row
row_level_inside s path picture y limits = level_of_within (camera_at path picture) y (levels_of s) limits.some_level

-- the corners of a pixel of a picture are inside its row's level
pub pixel_corners_inside : (s : Shape) (path : PathView) (picture y x : ℕ) → IsWithinLimits s
    → let row = shot_row s path picture y in
    AreInside (side s.width (row_level row)) (side s.height (row_level row)) (corners_of row x)
unfolding shot_row camera_spot corners_of
pixel_corners_inside s path picture y x limits =
    let row = shot_row s path picture y in
    let k = row_level row in
    corners_inside (side s.width k) (side s.height k) ((row_spot row x).0 / 2 ^ k) ((row_spot row x).1 / 2 ^ k)
    (texel_inside s.width (row_spot row x).0 k (ring_place_below _ (256 * s.width) (let a = limits.least_width in omega (arith, a))))
    (texel_inside s.height (row_spot row x).1 k (ring_place_below _ (256 * s.height) (let a = limits.least_height in omega (arith, a))))

-- what was found for the page of a texel of a level is the page of the texel that covers it
pub record IsCovered (s : Shape) (k x y : ℕ) (found : Found) : Type 0 where
  pub low : k ≤ found.level
  pub inside : IsInside s found.level (x / 2 ^ (found.level - k)) (y / 2 ^ (found.level - k))
  pub page : texel_page s found.level (x / 2 ^ (found.level - k)) (y / 2 ^ (found.level - k)) ≡ found.page

pub covered : (s : Shape) (version : ℕ) (says : Note → Type 0) (k x y : ℕ) (found : Found) → 1 ≤ s.tile → IsInside s k x y
    → IsFinestFound s version says (texel_page s k x y) found → IsCovered s k x y found
covered s version says k x y found some inside finest =
    let p : ℕ = texel_page s k x y in
    let j = found.level in
    let level : level_of s p ≡ k = (texel_is_page s k x y some inside).level in
    let no_finer : level_of s p ≤ j = finest.no_finer in
    let top : j < levels_of s = finest.level_inside in
    let low : k ≤ j = omega (arith, level, no_finer) in
    let up : k + (j - k) ≡ j = omega (arith, low) in
    let P : ℕ → Type 0 = λ i. IsInside s i (x / 2 ^ (j - k)) (y / 2 ^ (j - k))
    × (ancestor_of s p i ≡ texel_page s i (x / 2 ^ (j - k)) (y / 2 ^ (j - k))) in
    let line = subst P up (lines_follow_places s some k x y (j - k) inside (omega (arith, up, top))) in
    record { low = low; inside = line.0; page = sym (finest.page ∙ line.1) }
