-- Level 1 of a texture, as far as it is made while the texture's rows come.
use Rattle.std.specs.Prelude.{◌≡◌, ℕ, ◌+◌, ◌*◌, ◌/◌, ◌≤◌, List, length}
use Rattle.vt_ppm.specs.Depths.{IsDepth, texel_length}
use Rattle.vt_ppm.specs.Limits.{most_tiled_side}
use Rattle.vt_ppm.specs.Image.{ImageView}
use Rattle.vt_mip.specs.Halves.{IsHalvedRaster}

-- the depth and the sides of a texture, how many of its rows were taken, and the samples of its level 1
pub record HalvingView : Type 0 where
  pub depth : ℕ
  pub width : ℕ
  pub height : ℕ
  pub taken : ℕ
  pub samples : List ℕ

-- the texture has texels, no more than one that is cut into tiles; the samples are those of the rows that are made, and maybe room for further ones,
-- and so many bytes have room for all of level 1
pub record IsHalving (v : HalvingView) (room : ℕ) : Type 0 where
  pub depth : IsDepth v.depth
  pub some_columns : 1 ≤ v.width
  pub few_columns : v.width ≤ most_tiled_side
  pub some_rows : 1 ≤ v.height
  pub few_rows : v.height ≤ most_tiled_side
  pub few : v.taken ≤ v.height
  pub made : texel_length v.depth * ((v.width + 1) / 2 * ((v.taken + 1) / 2)) ≤ length v.samples
  pub within : length v.samples ≤ texel_length v.depth * ((v.width + 1) / 2 * ((v.height + 1) / 2))
  pub fits : texel_length v.depth * ((v.width + 1) / 2 * ((v.height + 1) / 2)) ≤ room

-- the rows that were taken are the first of an image, and they are halved
pub record HalvesFront (p : ImageView) (v : HalvingView) : Type 0 where
  pub depth : v.depth ≡ p.depth
  pub columns : v.width ≡ p.width
  pub rows : v.height ≡ p.height
  pub raster : IsHalvedRaster v.depth p.samples v.width v.height ((v.taken + 1) / 2) v.samples
