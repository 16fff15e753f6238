-- What keeps bytes from being an image: the first flaw that applies. The largest side that is taken is a number `most`.
use Rattle.std.specs.Prelude.{◌≡◌, ◌⊎◌, ℕ, ◌+◌, ◌*◌, ◌<◌, ◌≤◌, List, ◌++◌, length, take, drop, min, codes}
use Rattle.vt_definitions.specs.Depths.{texel_length, sample_at}
use Rattle.vt_definitions.specs.Limits.{header_limit, most_read_side, most_tiled_side}
use Rattle.vt_ppm.specs.Format.{IsHeader, HasHeader, IsMaximum, depth_of, AreUpTo, most_maximum}
use Rattle.vt_ppm.specs.declared.error.PpmError.{PpmError}
use Rattle.vt_ppm.specs.declared.error.PpmError.TheVariants.{BadMagic, BadHeader, BadSize, BadMaximum, Truncated, SampleOver, Failed, NoMemory}

-- bytes with which some header begins
pub record IsHeaderFront (front : List ℕ) : Type 0 where
  pub rest : List ℕ
  pub width : ℕ
  pub height : ℕ
  pub maximum : ℕ
  pub header : IsHeader (front ++ rest) width height maximum

-- the bytes begin with no header, and byte `at` is the first with which they begin none; it is their length, or the limit, where no
-- byte within the limit breaks the header
pub record IsBrokenAt (b : List ℕ) (at : ℕ) : Type 0 where
  pub none : (raster width height maximum : ℕ) → HasHeader b raster width height maximum → ⊥
  pub front : IsHeaderFront (take at b)
  pub breaks : (at ≡ min (length b) header_limit) ⊎ ((at < min (length b) header_limit) × (IsHeaderFront (take (at + 1) b) → ⊥))

-- sides of an image, each from 1 to the largest that is taken
pub record AreImageSides (most width height : ℕ) : Type 0 where
  pub some_columns : 1 ≤ width
  pub few_columns : width ≤ most
  pub some_rows : 1 ≤ height
  pub few_rows : height ≤ most

-- the bytes begin with a header, and its sides are not those of an image
pub record HasBadSize (most : ℕ) (b : List ℕ) : Type 0 where
  pub raster : ℕ
  pub width : ℕ
  pub height : ℕ
  pub maximum : ℕ
  pub header : HasHeader b raster width height maximum
  pub bad : AreImageSides most width height → ⊥

-- the bytes begin with a header, and its sides are those of an image
pub record IsSized (most : ℕ) (b : List ℕ) (raster width height maximum : ℕ) : Type 0 where
  pub header : HasHeader b raster width height maximum
  pub sides : AreImageSides most width height

-- the header's maximum is none of a raster (the Netpbm manual's P6 page)
pub record HasBadMaximum (most : ℕ) (b : List ℕ) : Type 0 where
  pub raster : ℕ
  pub width : ℕ
  pub height : ℕ
  pub maximum : ℕ
  pub sized : IsSized most b raster width height maximum
  pub bad : (maximum ≡ 0) ⊎ (most_maximum < maximum)

-- the bytes begin with a header of lawful sides and of a lawful maximum (the Netpbm manual's P6 page)
pub record IsLawfulHeader (most : ℕ) (b : List ℕ) (raster width height maximum : ℕ) : Type 0 where
  pub sized : IsSized most b raster width height maximum
  pub lawful : IsMaximum maximum

-- fewer bytes follow the header than its raster has
pub record IsTruncated (most : ℕ) (b : List ℕ) (want have : ℕ) : Type 0 where
  pub raster : ℕ
  pub width : ℕ
  pub height : ℕ
  pub maximum : ℕ
  pub header : IsLawfulHeader most b raster width height maximum
  pub want_is : want ≡ texel_length (depth_of maximum) * (width * height)
  pub have_is : raster + have ≡ length b
  pub short : have < want

-- at byte `at` begins the first sample of the raster that is above the header's maximum
pub record IsSampleOver (most : ℕ) (b : List ℕ) (at : ℕ) : Type 0 where
  pub raster : ℕ
  pub width : ℕ
  pub height : ℕ
  pub maximum : ℕ
  pub number : ℕ
  pub header : IsLawfulHeader most b raster width height maximum
  pub full : raster + texel_length (depth_of maximum) * (width * height) ≤ length b
  pub within : number < 3 * (width * height)
  pub over : maximum < sample_at (depth_of maximum) (drop raster b) number
  pub first : AreUpTo (depth_of maximum) maximum number (drop raster b)
  pub at_is : at ≡ raster + depth_of maximum * number

-- the first flaw of the bytes: the first line that applies, as each line leaves out what those before it say
abbrev pub IsFlawUpTo : ℕ → List ℕ → PpmError → Type 0
IsFlawUpTo most b BadMagic = take 2 b ≡ codes "P6" → ⊥
IsFlawUpTo most b (BadHeader at) = (take 2 b ≡ codes "P6") × IsBrokenAt b at
IsFlawUpTo most b BadSize = HasBadSize most b
IsFlawUpTo most b BadMaximum = HasBadMaximum most b
IsFlawUpTo most b (Truncated want have) = IsTruncated most b want have
IsFlawUpTo most b (SampleOver at) = IsSampleOver most b at
IsFlawUpTo most b Failed = ⊥
IsFlawUpTo most b NoMemory = ⊥

-- the first flaw of the bytes as an image that is read whole
abbrev pub IsImageFlaw : List ℕ → PpmError → Type 0
IsImageFlaw = IsFlawUpTo most_read_side

-- the first flaw of the bytes as an image of which the header is read, whose sides may be those of one that is cut into tiles
abbrev pub IsHeaderFlaw : List ℕ → PpmError → Type 0
IsHeaderFlaw = IsFlawUpTo most_tiled_side
