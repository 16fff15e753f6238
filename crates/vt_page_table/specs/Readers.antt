-- The readers of a page table.
use Rattle.std.specs.Prelude.{◌≡◌, ℕ, Some, List, length, slice_get}

-- there are so many readers, each at home
pub record AreHome {R : Type 0} (home : ℕ → R → Type 0) (samplers : ℕ) (readers : List R) : Type 0 where
  pub number : length readers ≡ samplers
  pub each : (k : ℕ) (r : R) → slice_get readers k ≡ Some r → home k r
