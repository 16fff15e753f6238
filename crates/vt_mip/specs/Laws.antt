-- The laws of mip chains: their words have the bytes of their depth, and from level 1 on a chain is that of level 1.
use Rattle.std.specs.Prelude.{◌≡◌, ℕ, suc, ◌+◌, ◌^◌, ◌*◌, ◌<◌, ◌≤◌}
use Rattle.vt_ppm.specs.Depths.{IsDepth, AreBytes}
use Rattle.vt_ppm.specs.Sides.{side, level_count}
use Rattle.vt_ppm.specs.Image.{ImageView, texel_of}
use Rattle.vt_mip.specs.Chains.{chain}
use Rattle.vt_mip.specs.Levels.{IsLevel}

-- the chain of a texture whose samples are bytes has words below 2^24 at one byte a sample, and below 2^48 at two
abbrev pub ChainWordsAreSmall : Type 0
ChainWordsAreSmall =
    (p : ImageView) (k x y : ℕ) → IsDepth p.depth → AreBytes p.samples
    → chain p.depth (texel_of p) p.width p.height k x y < 2 ^ (24 * p.depth)

-- the chain of a texture goes on from level 1 as the chain of the image that is level 1 begins: level k of the one is level k + 1 of the other
pub record ChainsGoOn : Type 0 where
  pub words : (base p : ImageView) (k x y : ℕ) → 1 ≤ base.width → 1 ≤ base.height → IsLevel base 1 p → x < side p.width k → y < side p.height k
      → chain p.depth (texel_of p) p.width p.height k x y ≡ chain base.depth (texel_of base) base.width base.height (suc k) x y
  pub sides : (w k : ℕ) → side (side w 1) k ≡ side w (suc k)
  pub levels : (w h t : ℕ) → 1 ≤ t → 2 ≤ level_count w h t → level_count (side w 1) (side h 1) t + 1 ≡ level_count w h t
