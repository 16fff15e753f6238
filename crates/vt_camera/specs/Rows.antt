-- The texels that a row of a picture shows, and the mip level that it takes them from.
use Rattle.std.specs.Prelude.{◌≡◌, ℕ, zero, suc, ◌+◌, ◌-◌, ◌*◌, ◌/◌, ◌^◌, ◌≤◌, ◌⊎◌, nat_le, if◌then◌else◌, ℤ, pos, ◌+ℤ◌, ◌-ℤ◌, ◌*ℤ◌, unsigned_abs}
use Rattle.std.specs.Int.{int_div_euclid, int_rem_euclid}
use Rattle.vt_text.specs.Limits.{most_tiled_side}
use Rattle.vt_camera.specs.declared.paths.Camera.{Camera}
use Rattle.vt_camera.specs.declared.surfaces.Surface.{Surface}
use Rattle.vt_camera.specs.Paths.{PathView}

-- the longest side of a texture that a camera may look at, in texels
abbrev pub longest_side : ℕ
longest_side = most_tiled_side

-- a texture's sides are within the limit, and it has a level
pub record IsSurface (surface : Surface) : Type 0 where
  pub width_low : 1 ≤ surface.width
  pub width_high : surface.width ≤ longest_side
  pub height_low : 1 ≤ surface.height
  pub height_high : surface.height ≤ longest_side
  pub some_level : 1 ≤ surface.levels

-- the greatest whole number that is not above z / n
abbrev pub floor_div : ℤ → ℕ → ℤ
floor_div z n = int_div_euclid z (pos n)

-- the place of z on a ring of n places, of which the first is 0
abbrev pub ring_place : ℤ → ℕ → ℕ
ring_place z n = unsigned_abs (int_rem_euclid z (pos n))

-- how far off the ground of row y lies, in 1/256 texel
abbrev pub distance : ℕ → Camera → ℕ → ℕ
distance focal camera y = unsigned_abs camera.h * focal / (y + 1)

-- how much ground a pixel of row y spans, in 1/256 texel
abbrev pub span : Camera → ℕ → ℕ
span camera y = unsigned_abs camera.h / (y + 1)

-- the greatest level up to a last one whose texels are no wider than the span, or 0 (van Waveren 2012)
abbrev pub level_within : ℕ → ℕ → ℕ
level_within p zero = 0
level_within p (suc k) = if nat_le (256 * 2 ^ suc k) p then suc k else level_within p k

-- the level of row y, of a texture with this many
unfoldable pub camera_level : Camera → ℕ → ℕ → ℕ
camera_level camera y levels = level_within (span camera y) (levels - 1)

-- how far to the right of the picture's middle the middle of a pixel lies, in half pixels
abbrev pub off_middle : ℕ → ℕ → ℤ
off_middle width x = pos (2 * x + 1) -ℤ pos width

-- the column of the ground that pixel (x, y) shows, in 1/256 texel, on a texture without end
unfoldable pub ground_u : ℕ → ℕ → Camera → ℕ → ℕ → ℤ
ground_u width focal camera x y =
    camera.u +ℤ floor_div (pos (distance focal camera y) *ℤ camera.c) 16384
    -ℤ floor_div (off_middle width x *ℤ (pos (span camera y) *ℤ camera.s)) 32768

-- the row of the ground that pixel (x, y) shows, in 1/256 texel, on a texture without end
unfoldable pub ground_v : ℕ → ℕ → Camera → ℕ → ℕ → ℤ
ground_v width focal camera x y =
    camera.v +ℤ floor_div (pos (distance focal camera y) *ℤ camera.s) 16384
    +ℤ floor_div (off_middle width x *ℤ (pos (span camera y) *ℤ camera.c)) 32768

-- the column and the row of the texel that pixel (x, y) shows, of a texture that repeats
unfoldable pub camera_place : ℕ → ℕ → Camera → ℕ → ℕ → ℕ → ℕ → ℕ × ℕ
camera_place width focal camera x y columns rows = (
  ring_place (floor_div (ground_u width focal camera x y) 256) columns,
  ring_place (floor_div (ground_v width focal camera x y) 256) rows,
)

-- where pixel (x, y) lies on a texture that repeats, in 1/256 texel from its first column and its first row
unfoldable pub camera_spot : ℕ → ℕ → Camera → ℕ → ℕ → ℕ → ℕ → ℕ × ℕ
camera_spot width focal camera x y columns rows = (
  ring_place (ground_u width focal camera x y) (256 * columns),
  ring_place (ground_v width focal camera x y) (256 * rows),
)

-- a row of a picture: the picture's width, the focal number, the camera, the row's number and the texture
pub record RowView : Type 0 where
  pub width : ℕ
  pub focal : ℕ
  pub camera : Camera
  pub y : ℕ
  pub surface : Surface

-- row y of the picture that this camera of a path takes of a texture
abbrev pub row_of : PathView → Camera → ℕ → Surface → RowView
row_of path camera y surface = record { width = path.width; focal = path.focal; camera = camera; y = y; surface = surface }

-- a row's level
abbrev pub row_level : RowView → ℕ
row_level row = camera_level row.camera row.y row.surface.levels

-- the texel that pixel x of a row shows
abbrev pub row_place : RowView → ℕ → ℕ × ℕ
row_place row x = camera_place row.width row.focal row.camera x row.y row.surface.width row.surface.height

-- where pixel x of a row lies on the texture, in 1/256 texel
abbrev pub row_spot : RowView → ℕ → ℕ × ℕ
row_spot row x = camera_spot row.width row.focal row.camera x row.y row.surface.width row.surface.height

-- k is the greatest level up to the last whose texels are no wider than the span p, or 0 where there is none (van Waveren 2012)
pub record IsLevelOfSpan (p last k : ℕ) : Type 0 where
  pub exists : k ≤ last
  pub fits : (k ≡ 0) ⊎ (256 * 2 ^ k ≤ p)
  pub greatest : (j : ℕ) → j ≤ last → 256 * 2 ^ j ≤ p → j ≤ k
