-- Runs of texels by bilinear filtering, and what answers them.
use Rattle.std.specs.Prelude.{◌≡◌, ℕ, ◌+◌, ◌*◌, ◌/◌, ◌%◌, ◌^◌, ◌<◌, List}
use Rattle.vt_definitions.specs.Depths.{texel_bytes, word_bytes}
use Rattle.vt_definitions.specs.Sides.{side}
use Rattle.vt_pages.specs.Shape.{Shape}
use Rattle.vt_draw.specs.Lookups.{Note}
use Rattle.vt_blend.specs.declared.blends.Texels.{Texels}
use Rattle.vt_blend.specs.declared.corners.Corners.{Corners}
use Rattle.vt_blend.specs.Blends.{blended_word}
use Rattle.vt_blend.specs.Corners.{corners_at, weights_of}
use Rattle.vt_plain_bilinear.specs.Served.{AreCornersServed}
use Rattle.vt_texel_runs.specs.declared.spans.Span.{Span}

-- a place of level 0 in 1/256 texel, of a start and so many steps in parts of 65536, which go round at 2^32
abbrev pub spot_at : ℕ → ℕ → ℕ → ℕ
spot_at start step i = (start + step * i) % 4294967296 / 256

-- the corners of a texel of a run: those of its place, as many times halved as its level says
unfoldable pub span_corners : Shape → Span → ℕ → Corners
span_corners s r i =
    corners_at (side s.width r.level) (side s.height r.level) (spot_at r.x r.step_x i / 2 ^ r.level) (spot_at r.y r.step_y i / 2 ^ r.level)

-- by what is said, the bytes are those of the blend of the words that serve the corners of a place of a level, at a depth
-- (van Waveren 2012)
pub record IsBlendAt (s : Shape) (d version : ℕ) (says : Note → Type 0) (k : ℕ) (at : Corners) (bytes : List ℕ) : Type 0 where
  pub texels : Texels
  pub served : AreCornersServed s version says k at texels
  pub shown : bytes ≡ word_bytes d (blended_word d (weights_of at) texels)

-- each of the first n texels of a run is so
abbrev pub AreBlendsAlong : Shape → ℕ → ℕ → (Note → Type 0) → Span → ℕ → List ℕ → Type 0
AreBlendsAlong s d version says r n bytes =
    (i : ℕ) → i < n → IsBlendAt s d version says r.level (span_corners s r i) (texel_bytes d bytes i)
