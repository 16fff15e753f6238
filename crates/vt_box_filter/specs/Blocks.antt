-- The numbers of which the halving of a block of texels is made, at a depth d.
use Rattle.std.specs.Prelude.{◌≡◌, ℕ, ◌+◌, ◌*◌, ◌/◌, ◌%◌, ◌<◌, List, slice_index}
use Rattle.vt_definitions.specs.Depths.{sample_at}
use Rattle.vt_box_filter.specs.Boxes.{box_at}
use Rattle.vt_box_filter.specs.HalvedRows.{row_sample}

-- the first n words are those of pairs of bytes, the first byte of each the low one
pub record AreWords (bytes : List ℕ) (n : ℕ) (words : List ℕ) : Type 0 where
  pub low : (i : ℕ) → i < n → slice_index words i % 256 ≡ slice_index bytes (2 * i)
  pub high : (i : ℕ) → i < n → slice_index words i / 256 ≡ slice_index bytes (2 * i + 1)

-- the samples of a block of two-byte samples
pub record AreWideSamples (bytes samples : List ℕ) : Type 0 where
  pub each : (i : ℕ) → i < 96 → slice_index samples i ≡ sample_at 2 bytes i

-- the first n numbers are boxes of a sample and the one a texel behind it, in two rows
pub record AreBoxes (d : ℕ) (top bottom : List ℕ) (n : ℕ) (boxes : List ℕ) : Type 0 where
  pub each : (i : ℕ) → i < n → slice_index boxes i ≡ box_at d top bottom i (i + 3)

-- the first n texels are every other one of those whose samples are some numbers
pub record AreEveryOther (d : ℕ) (numbers : List ℕ) (n : ℕ) (out : List ℕ) : Type 0 where
  pub each : (x c : ℕ) → x < n → c < 3 → row_sample d out x c ≡ slice_index numbers (6 * x + c)
