-- The levels of a chain as a list of images.
use Rattle.std.specs.Prelude.{◌≡◌, ℕ, ◌+◌, ◌-◌, ◌<◌, ◌≤◌, List, [], ◌∷◌, ◌++◌, length, slice_index_or}
use Rattle.vt_ppm.specs.Depths.{AreBytes}
use Rattle.vt_ppm.specs.Limits.{most_levels}
use Rattle.vt_ppm.specs.Sides.{side, level_count}
use Rattle.vt_ppm.specs.Image.{ImageView, IsLawfulImage, texel_of}
use Rattle.vt_mip.specs.Chains.{chain}
use Rattle.vt_mip.specs.Halves.{IsHalf}

-- an image is level k of the chain of a texture
pub record IsLevel (base : ImageView) (k : ℕ) (p : ImageView) : Type 0 where
  pub depth : p.depth ≡ base.depth
  pub columns : p.width ≡ side base.width k
  pub rows : p.height ≡ side base.height k
  pub texels : (x y : ℕ) → x < p.width → y < p.height
      → texel_of p x y ≡ chain base.depth (texel_of base) base.width base.height k x y
  pub lawful : IsLawfulImage p

-- the image of no texels, which no list of levels holds
abbrev pub no_image : ImageView
no_image = record { depth = 0; width = 0; height = 0; samples = [] }

-- the image of a level
abbrev pub level_at : List ImageView → ℕ → ImageView
level_at levels k = slice_index_or levels k no_image

-- the image of the last level
abbrev pub coarsest : List ImageView → ImageView
coarsest levels = level_at levels (length levels - 1)

-- both sides of the last level are at most t
pub record IsLastFitting (levels : List ImageView) (t : ℕ) : Type 0 where
  pub columns : (coarsest levels).width ≤ t
  pub rows : (coarsest levels).height ≤ t

-- the levels of a chain from its texture on, none of which but the last fits into a tile
pub record IsChainFront (levels : List ImageView) (t : ℕ) : Type 0 where
  pub some : 1 ≤ length levels
  pub each : (k : ℕ) → k < length levels → IsLevel (level_at levels 0) k (level_at levels k)
  pub needed : (k : ℕ) → side (level_at levels 0).width k ≤ t → side (level_at levels 0).height k ≤ t → length levels ≤ k + 1

-- the levels gained the half of the last one
pub record GainsHalf (old new : List ImageView) : Type 0 where
  pub next : ImageView
  pub gained : new ≡ old ++ next ∷ []
  pub half : IsHalf (coarsest old) next
  pub bytes : AreBytes (coarsest old).samples
  pub lawful : IsLawfulImage next

-- all levels of a chain
pub record IsWholeChain (levels : List ImageView) (t : ℕ) : Type 0 where
  pub front : IsChainFront levels t
  pub count : length levels ≡ level_count (level_at levels 0).width (level_at levels 0).height t
  pub few : length levels ≤ most_levels
