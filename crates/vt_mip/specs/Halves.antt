-- The samples of rasters and images that are halves of others, at a depth d.
use Rattle.std.specs.Prelude.{◌≡◌, ℕ, ◌+◌, ◌*◌, ◌/◌, ◌<◌, ◌≤◌, List}
use Rattle.vt_ppm.specs.Depths.{IsDepth, texel_length}
use Rattle.vt_ppm.specs.Limits.{most_tiled_side}
use Rattle.vt_ppm.specs.Image.{ImageView}
use Rattle.vt_box_filter.specs.HalvedRows.{row_sample}
use Rattle.vt_mip.specs.Chains.{halved}

-- a sample of a raster of w columns
abbrev pub raster_sample : ℕ → List ℕ → ℕ → ℕ → ℕ → ℕ → ℕ
raster_sample d samples w x y c = row_sample d samples (y * w + x) c

-- the first n rows of a raster are those of the half of a raster of w columns and h rows
pub record IsHalvedRaster (d : ℕ) (source : List ℕ) (w h n : ℕ) (out : List ℕ) : Type 0 where
  pub each : (x y c : ℕ) → x < (w + 1) / 2 → y < n → c < 3
      → raster_sample d out ((w + 1) / 2) x y c ≡ halved (λ i j. raster_sample d source w i j c) w h x y

-- an image is the half of another one
pub record IsHalf (p q : ImageView) : Type 0 where
  pub depth : q.depth ≡ p.depth
  pub columns : q.width ≡ (p.width + 1) / 2
  pub rows : q.height ≡ (p.height + 1) / 2
  pub raster : IsHalvedRaster p.depth p.samples p.width p.height q.height q.samples

-- so many bytes hold a raster of w columns and h rows, which are sides of one that is cut into tiles, and so many have room for its half
pub record AreHalfSizes (d w h space room : ℕ) : Type 0 where
  pub depth : IsDepth d
  pub some_columns : 1 ≤ w
  pub few_columns : w ≤ most_tiled_side
  pub some_rows : 1 ≤ h
  pub few_rows : h ≤ most_tiled_side
  pub source : space ≡ texel_length d * (w * h)
  pub out : room ≡ texel_length d * ((w + 1) / 2 * ((h + 1) / 2))
