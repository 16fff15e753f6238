-- A path as its numbers, and the limits that they keep.
use Rattle.std.specs.Prelude.{ℕ, ◌≤◌, List, length, slice_index_or, pos, neg_ℤ, ◌≤ℤ◌, All}
use Rattle.vt_text.specs.Limits.{most_picture_side, most_focal, most_pictures}
use Rattle.vt_camera.specs.declared.paths.Camera.{Camera}

-- a path as its numbers: the picture's sides, the focal number and a camera for each picture
pub record PathView : Type 0 where
  pub width : ℕ
  pub height : ℕ
  pub focal : ℕ
  pub cameras : List Camera

-- how far from 0 a camera's place lies at most on each axis, in 1/256 texel
abbrev pub most_place : ℕ
most_place = 2147483648

-- how far from 0 the cosine and the sine of a direction lie at most, in 1/16384
abbrev pub most_direction : ℕ
most_direction = 16384

-- the greatest height over a texture, in 1/256 texel
abbrev pub most_height : ℕ
most_height = 16777216

-- a camera's place, height and direction are within their limits
pub record IsCamera (camera : Camera) : Type 0 where
  pub u_low : neg_ℤ (pos most_place) ≤ℤ camera.u
  pub u_high : camera.u ≤ℤ pos most_place
  pub v_low : neg_ℤ (pos most_place) ≤ℤ camera.v
  pub v_high : camera.v ≤ℤ pos most_place
  pub h_low : pos 1 ≤ℤ camera.h
  pub h_high : camera.h ≤ℤ pos most_height
  pub c_low : neg_ℤ (pos most_direction) ≤ℤ camera.c
  pub c_high : camera.c ≤ℤ pos most_direction
  pub s_low : neg_ℤ (pos most_direction) ≤ℤ camera.s
  pub s_high : camera.s ≤ℤ pos most_direction

-- both sides of a picture are within their limits
pub record ArePictureSides (width height : ℕ) : Type 0 where
  pub width_low : 1 ≤ width
  pub width_high : width ≤ most_picture_side
  pub height_low : 1 ≤ height
  pub height_high : height ≤ most_picture_side

-- a focal number is within its limits
abbrev pub IsFocal : ℕ → Type 0
IsFocal focal = (1 ≤ focal) × (focal ≤ most_focal)

-- a path's numbers are within their limits, and so is each of its cameras
pub record IsPath (path : PathView) : Type 0 where
  pub sides : ArePictureSides path.width path.height
  pub focus : IsFocal path.focal
  pub few : length path.cameras ≤ most_pictures
  pub each : All IsCamera path.cameras

-- the camera of a picture of a path; pictures count from 0
abbrev pub camera_at : PathView → ℕ → Camera
camera_at path picture = slice_index_or path.cameras picture (record { u = pos 0; v = pos 0; h = pos 1; c = pos 0; s = pos 0 })
