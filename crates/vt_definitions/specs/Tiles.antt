-- The sides that tiles may have: 2, 4, 8, 16, 32, 64 and 128.
use Rattle.std.specs.Prelude.{ℕ, Bool, ◌==◌, ◌||◌, IsTrue}
use Rattle.vt_definitions.specs.Limits.{most_tile_side}

-- whether a number is a tile side: a power of two from 2 to the largest
abbrev pub is_tile_side : ℕ → Bool
is_tile_side t = t == 2 || t == 4 || t == 8 || t == 16 || t == 32 || t == 64 || t == most_tile_side

-- a number is a tile side
abbrev pub IsTileSide : ℕ → Type 0
IsTileSide t = IsTrue (is_tile_side t)
