-- Counts of pages by blocks of 64, of which each has a mark.
use Rattle.std.specs.Prelude.{◌≡◌, ℕ, ◌+◌, ◌*◌, ◌<◌, ◌≤◌, Bool, false, List, length, slice_index, slice_index_or}

-- there is a mark for each block, the last of which may have fewer pages, and a block without one has no count above 0
pub record AreMarked (counts : List ℕ) (marks : List Bool) : Type 0 where
  pub enough : length counts ≤ length marks * 64
  pub few : length marks * 64 < length counts + 64
  pub low : (block p : ℕ) → block < length marks → slice_index_or marks block false ≡ false → block * 64 ≤ p → p < block * 64 + 64
      → slice_index counts p ≡ 0
