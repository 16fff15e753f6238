-- The four texels about the place of a pixel, and what each weighs in the pixel's blend.
use Rattle.std.specs.Prelude.{◌≡◌, ℕ, ◌+◌, ◌-◌, ◌*◌, ◌/◌, ◌%◌, ◌^◌, ◌<◌, ◌==◌, if◌then◌else◌}
use Rattle.vt_definitions.specs.Sides.{side}
use Rattle.vt_camera.specs.Rows.{RowView, row_level, row_spot}
use Rattle.vt_blend.specs.declared.corners.Corners.{Corners}
use Rattle.vt_blend.specs.declared.corners.Weights.{Weights}

-- the column after one of a level with so many, or the row after one: the first where there is no further, for the texture repeats
abbrev pub after : ℕ → ℕ → ℕ
after many n = if n + 1 == many then 0 else n + 1

-- the corners of a place of a level with so many columns and rows, in 1/256 texel of the level: the column and the row that it lies in,
-- the ones after them, and how far it lies in the first
abbrev pub corners_at : ℕ → ℕ → ℕ → ℕ → Corners
corners_at columns rows a b = record {
  column = a / 256;
  line = b / 256;
  next_column = after columns (a / 256);
  next_line = after rows (b / 256);
  across = a % 256;
  down = b % 256;
}

-- the corners of pixel x of a row: those of its place, as many times halved as its row's level says
unfoldable pub corners_of : RowView → ℕ → Corners
corners_of row x =
    corners_at (side row.surface.width (row_level row)) (side row.surface.height (row_level row))
    ((row_spot row x).0 / 2 ^ row_level row) ((row_spot row x).1 / 2 ^ row_level row)

-- the corners are texels of a level with so many columns and rows, and the place lies in the first
pub record AreInside (columns rows : ℕ) (at : Corners) : Type 0 where
  pub column : at.column < columns
  pub next_column : at.next_column < columns
  pub line : at.line < rows
  pub next_line : at.next_line < rows
  pub across : at.across < 256
  pub down : at.down < 256

-- the weights of the texels in the first and the second column of the first row, and of those in the second: the nearer the place lies to
-- one, the more it weighs
unfoldable pub weights_of : Corners → Weights
weights_of at = record {
  first = (256 - at.across) * (256 - at.down);
  second = at.across * (256 - at.down);
  third = (256 - at.across) * at.down;
  fourth = at.across * at.down;
}

-- the weights are 65536 together
abbrev pub AreWhole : Weights → Type 0
AreWhole w = w.first + w.second + w.third + w.fourth ≡ 65536
