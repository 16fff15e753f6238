-- An image that is halved in its own memory.
use Rattle.std.specs.Prelude.{◌≡◌, ℕ, ◌+◌, ◌*◌, ◌/◌, ◌≤◌, List, length, drop}
use Rattle.vt_ppm.specs.Depths.{IsDepth, texel_length}
use Rattle.vt_ppm.specs.Limits.{most_tiled_side}
use Rattle.vt_ppm.specs.Image.{ImageView, IsLawfulImage}
use Rattle.vt_mip.specs.Halves.{IsHalvedRaster}
use Rattle.vt_mip.specs.TakenRows.{HalvingView}

-- the first n pairs of rows of a raster are halved, and are in front; the rows behind those pairs are as they were
pub record IsShrunk (d : ℕ) (source : List ℕ) (w h n : ℕ) (samples : List ℕ) : Type 0 where
  pub halved : IsHalvedRaster d source w h n samples
  pub rest : drop (d * (3 * w * (2 * n))) samples ≡ drop (d * (3 * w * (2 * n))) source

-- so many bytes hold an image whose sides are those of one that is cut into tiles, and so many have room for half a row of it
pub record IsRoomForHalving (d w h space room : ℕ) : Type 0 where
  pub depth : IsDepth d
  pub some_columns : 1 ≤ w
  pub few_columns : w ≤ most_tiled_side
  pub some_rows : 1 ≤ h
  pub few_rows : h ≤ most_tiled_side
  pub whole : space ≡ texel_length d * (w * h)
  pub row : room ≡ texel_length d * ((w + 1) / 2)

-- there is an image in memory, some of whose rows were taken, and room for half a row
pub record IsShrinking (v : HalvingView) (room : ℕ) : Type 0 where
  pub image : IsLawfulImage (record { depth = v.depth; width = v.width; height = v.height; samples = v.samples })
  pub few : v.taken ≤ v.height
  pub row : room ≡ texel_length v.depth * ((v.width + 1) / 2)

-- the rows that were taken are the first of an image, and they are halved; the others are as they were
pub record ShrinksFront (p : ImageView) (v : HalvingView) : Type 0 where
  pub depth : v.depth ≡ p.depth
  pub columns : v.width ≡ p.width
  pub rows : v.height ≡ p.height
  pub full : length v.samples ≡ length p.samples
  pub shrunk : IsShrunk v.depth p.samples v.width v.height ((v.taken + 1) / 2) v.samples
