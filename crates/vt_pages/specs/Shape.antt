-- The three numbers that say how a texture is cut into pages, and their limits.
use Rattle.std.specs.Prelude.{ℕ, ◌^◌, Bool, nat_lt, nat_le, ◌&&◌, count_by}
use Rattle.std.specs.List.{range_with_len}
use Rattle.vt_definitions.specs.Limits.{most_tiled_side}

-- the sides of a texture and the side of its tiles, in texels (van Waveren 2012)
pub record Shape : Type 0 where
  pub width : ℕ
  pub height : ℕ
  pub tile : ℕ

-- the shape of three numbers (van Waveren 2012)
abbrev pub shape_of : ℕ → ℕ → ℕ → Shape
shape_of width height tile = record { width = width; height = height; tile = tile }

-- a side of a texture is from 1 to the largest side
abbrev pub is_texture_side : ℕ → Bool
is_texture_side n = nat_le 1 n && nat_le n most_tiled_side

-- the exponent of a tile side as a power of two: how many of the powers 1, 2, 4 .. 64 are below it
abbrev pub tile_exponent : ℕ → ℕ
tile_exponent t = count_by (λ e. nat_lt (2 ^ e) t) (range_with_len 0 7)
