-- What the rows of a plain picture by blends are drawn of.
use Rattle.std.specs.Prelude.{◌≡◌, ◌*◌, ◌<◌, ◌≤◌, ℕ, List}
use Rattle.vt_definitions.specs.Depths.{texel_length}
use Rattle.vt_definitions.specs.Limits.{most_levels}
use Rattle.vt_camera.specs.Paths.{IsCamera}
use Rattle.vt_camera.specs.Rows.{IsSurface, row_of}
use Rattle.vt_plain.specs.Plain.{chain_of, surface_of}
use Rattle.vt_plain.specs.declared.blended.BlendView.{BlendView}
use Rattle.vt_plain.specs.BlendedPlain.{row_blends}

-- a chain as a surface of its own, and a camera
pub record IsBlendView (v : BlendView) : Type 0 where
  pub surface : v.surface ≡ surface_of v.chain.now.base v.chain.now.tile
  pub limits : IsSurface v.surface
  pub levels : v.surface.levels ≤ most_levels
  pub camera : IsCamera v.camera

-- the bytes of a row, as the camera shows the chain
abbrev pub row_blended : BlendView → ℕ → List ℕ
row_blended v y = row_blends v.chain.now.base.depth (chain_of v.chain.now.base) (row_of v.path.now v.camera y v.surface) v.path.now.width

-- so many bytes have room for a row of those that the camera shows
pub record IsBlendRowOf (v : BlendView) (y room : ℕ) : Type 0 where
  pub view : IsBlendView v
  pub inside : y < v.path.now.height
  pub full : room ≡ texel_length v.chain.now.base.depth * v.path.now.width
