-- An image as its samples: two sides, a depth and three samples a texel, row by row.
use Rattle.std.specs.Prelude.{◌≡◌, ℕ, ◌+◌, ◌*◌, ◌≤◌, List, length}
use Rattle.vt_definitions.specs.Depths.{IsDepth, texel_length, word_at}
use Rattle.vt_definitions.specs.Limits.{most_read_side}

-- an image: how many bytes a sample has, its sides, and three samples a texel, red first, row by row (the Netpbm manual's P6 page)
pub record ImageView : Type 0 where
  pub depth : ℕ
  pub width : ℕ
  pub height : ℕ
  pub samples : List ℕ

-- an image has some texels, its sides are at most a number, and it has the bytes of three samples for each texel
pub record IsImageWithin (most : ℕ) (p : ImageView) : Type 0 where
  pub depth : IsDepth p.depth
  pub some_columns : 1 ≤ p.width
  pub few_columns : p.width ≤ most
  pub some_rows : 1 ≤ p.height
  pub few_rows : p.height ≤ most
  pub full : length p.samples ≡ texel_length p.depth * (p.width * p.height)

-- an image that is read whole is within its limit
abbrev pub IsLawfulImage : ImageView → Type 0
IsLawfulImage = IsImageWithin most_read_side

-- the word of the texel in a column and a row
abbrev pub texel_of : ImageView → ℕ → ℕ → ℕ
texel_of p x y = word_at p.depth p.samples (y * p.width + x)
