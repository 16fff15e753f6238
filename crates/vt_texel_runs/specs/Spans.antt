-- Runs of texels, and what answers them.
use Rattle.std.specs.Prelude.{◌≡◌, ℕ, ◌+◌, ◌*◌, ◌/◌, ◌%◌, ◌<◌, List, slice_index}
use Rattle.vt_definitions.specs.Depths.{texel_bytes}
use Rattle.vt_pages.specs.Shape.{Shape}
use Rattle.vt_draw.specs.Lookups.{Note, covering_page}
use Rattle.vt_texel_runs.specs.declared.points.Point.{Point}
use Rattle.vt_texel_runs.specs.declared.spans.Span.{Span}
use Rattle.vt_texel_runs.specs.Points.{IsPoint, IsAnswered}

-- a texel of level 0, of a start and so many steps in parts of 65536, which go round at 2^32
abbrev pub stepped : ℕ → ℕ → ℕ → ℕ
stepped start step i = (start + step * i) % 4294967296 / 65536

-- the point of a texel of a run
abbrev pub span_point : Span → ℕ → Point
span_point r i = record { level = r.level; x = stepped r.x r.step_x i; y = stepped r.y r.step_y i }

-- each point of a run is the texture's
abbrev pub IsSpanInside : Shape → Span → Type 0
IsSpanInside s r = (i : ℕ) → i < r.count → IsPoint s (span_point r i)

-- each of the first n texels of a run is answered
abbrev pub AreSpanned : Shape → ℕ → ℕ → (Note → Type 0) → Span → ℕ → List ℕ → Type 0
AreSpanned s d version says r n bytes = (i : ℕ) → i < n → IsAnswered s d version says (span_point r i) (texel_bytes d bytes i)

-- the pages that the first n texels of a run want
abbrev pub AreWantedBySpan : Shape → Span → ℕ → List ℕ → Type 0
AreWantedBySpan s r n pages = (i : ℕ) → i < n → slice_index pages i ≡ covering_page s (span_point r i).level (span_point r i).x (span_point r i).y
