-- What a `Row` keeps beside what it stands for: the numbers that are the same at each pixel of it.
use Rattle.std.specs.Prelude.{◌≡◌, ℕ, ◌+◌, ◌-◌, ◌*◌, ◌/◌, ◌%◌, ◌^◌, ◌≤◌, ℤ, pos, negsuc, ◌+ℤ◌, ◌*ℤ◌, ◌≤ℤ◌}
use Rattle.vt_text.specs.Limits.{most_picture_side, most_focal}
use Rattle.vt_camera.specs.declared.rows.Axis.{Axis}
use Rattle.vt_camera.specs.Paths.{IsCamera}
use Rattle.vt_camera.specs.Rows.{RowView, IsSurface, floor_div, distance, span, row_level}

-- whole turns round a ring of so many texels, in 1/256 texel, that outweigh each place of the ground
abbrev pub whole_turns : ℕ → ℕ
whole_turns side = (1073741824 / side + 1) * (256 * side)

-- the place of a row's middle, on one of the two axes, whole turns further on
abbrev pub middle_of : ℤ → ℕ → ℤ → ℕ → ℤ
middle_of place off direction side = place +ℤ floor_div (pos off *ℤ direction) 16384 +ℤ pos (whole_turns side)

-- where a row's middle lies along the columns, in 1/2^23 texel; it is one part short of a place further on, so that what is
-- taken away from it is rounded up
abbrev pub columns_middle : RowView → ℤ
columns_middle row =
    middle_of row.camera.u (distance row.focal row.camera row.y) row.camera.c row.surface.width *ℤ pos 32768 +ℤ pos 32767

-- where a row's middle lies along the rows, in 1/2^23 texel
abbrev pub rows_middle : RowView → ℤ
rows_middle row = middle_of row.camera.v (distance row.focal row.camera row.y) row.camera.s row.surface.height *ℤ pos 32768

-- how many of 2^64 parts of a turn 1/256 texel is, rounded up
abbrev pub part_of : ℕ → ℕ
part_of side = 18446744073709551615 / (256 * side) + 1

-- how many texels of a level a turn has, in 1/65536 texel
abbrev pub turn_at : ℕ → ℕ → ℕ
turn_at side level = side * 2 ^ (16 - level)

-- which of the equal pieces of a turn a place lies on, by its parts
abbrev pub on_ring : ℕ → ℕ → ℕ → ℕ
on_ring place part pieces = place * part % 2 ^ 64 * pieces / 2 ^ 64

-- an axis of a row whose middle lies at a place of the texture's side, and which goes so far in half a pixel
pub record IsAxis (side level : ℕ) (middle across : ℤ) (axis : Axis) : Type 0 where
  pub middle_is : axis.middle ≡ middle
  pub across_is : axis.across ≡ across
  pub part_is : axis.part ≡ part_of side
  pub turn_is : axis.turn ≡ turn_at side level
  pub middle_low : pos 4503599627370496 ≤ℤ middle
  pub middle_high : middle ≤ℤ pos 13510798882144255
  pub across_low : negsuc 274877906943 ≤ℤ across
  pub across_high : across ≤ℤ pos 274877906944

-- a row's level, and what is the same at each of its pixels along both axes
pub record IsRow (row : RowView) (level : ℕ) (columns rows : Axis) : Type 0 where
  pub width_low : 1 ≤ row.width
  pub width_high : row.width ≤ most_picture_side
  pub focal_high : row.focal ≤ most_focal
  pub camera : IsCamera row.camera
  pub surface : IsSurface row.surface
  pub level_is : level ≡ row_level row
  pub level_high : level ≤ 16
  pub columns_are : IsAxis row.surface.width level (columns_middle row) (pos (span row.camera row.y) *ℤ row.camera.s) columns
  pub rows_are : IsAxis row.surface.height level (rows_middle row) (pos (span row.camera row.y) *ℤ row.camera.c) rows
