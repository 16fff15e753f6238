-- What the rows of a plain picture are drawn of: the levels of a texture that are there, and a camera whose rows want no other.
use Rattle.std.specs.Prelude.{◌≡◌, ◌-◌, ◌*◌, ◌<◌, ◌≤◌, ℕ, List}
use Rattle.vt_pages.specs.Depths.{texel_length}
use Rattle.vt_pages.specs.Limits.{most_levels}
use Rattle.vt_pages.specs.Sides.{side}
use Rattle.vt_pages.specs.Texels.{Source}
use Rattle.vt_mip.specs.Chains.{chain_levels, chain_width, chain_height}
use Rattle.vt_camera.specs.declared.paths.Camera.{Camera}
use Rattle.vt_camera.specs.Paths.{PathView, IsCamera}
use Rattle.vt_camera.specs.Rows.{IsSurface, row_of, row_level}
use Rattle.vt_plain.specs.declared.plain.Levels.{Levels}
use Rattle.vt_plain.specs.declared.plain.View.{View}
use Rattle.vt_plain.specs.Plain.{chain_of, levels_from, row_samples}

-- the levels of a texture as a source, of those that are there
abbrev pub source_of : Levels → Source
source_of l = levels_from l.skipped (chain_of l.chain.now.base)

-- the chain has the levels of the surface from the first on that is there, each with its sides
pub record AreLevels (l : Levels) : Type 0 where
  pub limits : IsSurface l.surface
  pub few : l.surface.levels ≤ most_levels
  pub there : (k : ℕ) → l.skipped ≤ k → k < l.surface.levels → k - l.skipped < chain_levels l.chain.now
  pub columns : (k : ℕ) → l.skipped ≤ k → k < l.surface.levels → chain_width l.chain.now (k - l.skipped) ≡ side l.surface.width k
  pub rows : (k : ℕ) → l.skipped ≤ k → k < l.surface.levels → chain_height l.chain.now (k - l.skipped) ≡ side l.surface.height k

-- no row that a camera of a path shows wants a level that is left out
abbrev pub WantsNone : Levels → PathView → Camera → Type 0
WantsNone l path camera = (y : ℕ) → y < path.height → l.skipped ≤ row_level (row_of path camera y l.surface)

-- levels, and a camera that wants none that is left out
pub record IsView (v : View) : Type 0 where
  pub levels : AreLevels v.levels
  pub camera : IsCamera v.camera
  pub wants : WantsNone v.levels v.path.now v.camera

-- the bytes of a row, as the camera shows the levels
abbrev pub row_shown : View → ℕ → List ℕ
row_shown v y =
    row_samples v.levels.chain.now.base.depth (source_of v.levels) (row_of v.path.now v.camera y v.levels.surface) v.path.now.width

-- so many bytes have room for a row of those that the camera shows
pub record IsRowOf (v : View) (y room : ℕ) : Type 0 where
  pub view : IsView v
  pub inside : y < v.path.now.height
  pub full : room ≡ texel_length v.levels.chain.now.base.depth * v.path.now.width
