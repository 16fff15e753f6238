-- What the passes over a raster answer: its samples as they are kept, and the first one above the maximum.
use Rattle.std.specs.Prelude.{◌≡◌, ℕ, ◌+◌, ◌*◌, ◌<◌, ◌≤◌, List, length, slice_index}
use Rattle.vt_definitions.specs.Depths.{AreBytes, sample_at}
use Rattle.vt_ppm.specs.Format.{AreUpTo, AreScaled, depth_of, most_byte, scaled}
use Rattle.vt_ppm.specs.Image.{ImageView}

-- the first samples, so many, that are not above the maximum are those of a raster as they are kept
abbrev pub AreScaledUpTo : ℕ → ℕ → ℕ → List ℕ → List ℕ → Type 0
AreScaledUpTo depth maximum count raster samples =
    (i : ℕ) → i < count → sample_at depth raster i ≤ maximum
    → sample_at depth samples i ≡ scaled depth maximum (sample_at depth raster i)

-- of so many samples, the first above the maximum has a number
pub record IsFirstOver (depth maximum count : ℕ) (samples : List ℕ) (number : ℕ) : Type 0 where
  pub within : number < count
  pub over : maximum < sample_at depth samples number
  pub first : AreUpTo depth maximum number samples

-- at this byte of the file begins the first sample above the maximum
pub record IsOverAt (raster maximum count : ℕ) (samples : List ℕ) (at : ℕ) : Type 0 where
  pub number : ℕ
  pub at_is : at ≡ raster + depth_of maximum * number
  pub over : IsFirstOver (depth_of maximum) maximum count samples number

-- an image is that of a raster
pub record IsRasterImage (width height maximum : ℕ) (raster : List ℕ) (p : ImageView) : Type 0 where
  pub samples : List ℕ
  pub shape : p ≡ record { depth = depth_of maximum; width = width; height = height; samples = samples }
  pub full : length samples ≡ length raster
  pub kept : AreScaled (depth_of maximum) maximum (3 * (width * height)) raster samples
  pub bytes : AreBytes samples

-- a table of each sample of one byte up to the maximum as it is kept
pub record IsScale (table : List ℕ) (maximum : ℕ) : Type 0 where
  pub full : length table ≡ most_byte + 1
  pub each : (k : ℕ) → k ≤ maximum → slice_index table k ≡ scaled 1 maximum k
