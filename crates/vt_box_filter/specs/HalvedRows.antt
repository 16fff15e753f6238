-- The samples of rows that are halves of two others, at a depth d.
use Rattle.std.specs.Prelude.{◌≡◌, ℕ, ◌+◌, ◌*◌, ◌<◌, List}
use Rattle.vt_definitions.specs.Depths.{sample_at}
use Rattle.vt_box_filter.specs.Boxes.{clamped, box_at}

-- a sample of a row, by the column of its texel and its channel: red is 0, green 1 and blue 2
abbrev pub row_sample : ℕ → List ℕ → ℕ → ℕ → ℕ
row_sample d row x c = sample_at d row (3 * x + c)

-- the box filter of two rows of w texels, at a column of the half
abbrev pub pair_sample : ℕ → List ℕ → List ℕ → ℕ → ℕ → ℕ → ℕ
pair_sample d top bottom w x c = box_at d top bottom (3 * clamped w (2 * x) + c) (3 * clamped w (2 * x + 1) + c)

-- the first n texels of a row are the half of two rows of w texels
pub record IsHalvedRow (d : ℕ) (top bottom : List ℕ) (w n : ℕ) (out : List ℕ) : Type 0 where
  pub each : (x c : ℕ) → x < n → c < 3 → row_sample d out x c ≡ pair_sample d top bottom w x c
