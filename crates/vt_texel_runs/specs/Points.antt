-- Texels that are asked for, and what answers them.
use Rattle.std.specs.Prelude.{◌≡◌, ℕ, ◌<◌, List, slice_index_or}
use Rattle.vt_definitions.specs.Depths.{texel_bytes, word_bytes}
use Rattle.vt_pages.specs.Shape.{Shape}
use Rattle.vt_pages.specs.Pages.{levels_of}
use Rattle.vt_draw.specs.declared.lookups.Found.{Found}
use Rattle.vt_draw.specs.Lookups.{Note, WordNote, IsFinestFound, covering_page, covering_place}
use Rattle.vt_texel_runs.specs.declared.points.Point.{Point}

-- a level of a shape, and a place of level 0
pub record IsPoint (s : Shape) (p : Point) : Type 0 where
  pub level : p.level < levels_of s
  pub column : p.x < s.width
  pub row : p.y < s.height

-- by what is said, the bytes are those of the texel over a point in the finest mapped page of the line of its page (van Waveren 2012)
pub record IsAnswered (s : Shape) (d version : ℕ) (says : Note → Type 0) (p : Point) (bytes : List ℕ) : Type 0 where
  pub found : Found
  pub word : ℕ
  pub finest : IsFinestFound s version says (covering_page s p.level p.x p.y) found
  pub read : says (WordNote version found.slot (covering_place s found.level p.x p.y) word)
  pub shown : bytes ≡ word_bytes d word

-- each of the first n points is answered
abbrev pub AreAnswered : Shape → ℕ → ℕ → (Note → Type 0) → List Point → ℕ → List ℕ → Type 0
AreAnswered s d version says points n bytes =
    (i : ℕ) (p : Point) → i < n → IsAnswered s d version says (slice_index_or points i p) (texel_bytes d bytes i)
