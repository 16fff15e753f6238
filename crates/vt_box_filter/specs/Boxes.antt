-- The box filter: the mean of four samples, a half rounded up.
use Rattle.std.specs.Prelude.{ℕ, ◌+◌, ◌-◌, ◌/◌, List, min}
use Rattle.vt_definitions.specs.Depths.{sample_at}

-- the box filter: the mean of four samples, a half rounded up
abbrev pub box : ℕ → ℕ → ℕ → ℕ → ℕ
box a b c d = (a + b + c + d + 2) / 4

-- a column among n columns, or a row among n rows, clamped to the last one
abbrev pub clamped : ℕ → ℕ → ℕ
clamped n i = min i (n - 1)

-- the box filter of two samples of each of two rows, at a depth
abbrev pub box_at : ℕ → List ℕ → List ℕ → ℕ → ℕ → ℕ
box_at d top bottom i j = box (sample_at d top i) (sample_at d top j) (sample_at d bottom i) (sample_at d bottom j)
