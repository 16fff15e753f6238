-- Stores that are the same but for what they have room for.
use Rattle.std.specs.Prelude.{◌≡◌, ℕ, ◌<◌, List, length, slice_index_or}
use Rattle.vt_outside.specs.declared.outside.File.{Ghosts as FileMeanings}
use Rattle.vt_tiles.specs.StoreViews.{StoreView}
use Rattle.vt_requests.specs.Machines.{file_state}

-- a store is the same but for its room to note reads
pub record IsSameStore {F : Type 0} (g : FileMeanings F) (before after : StoreView F) : Type 0 where
  pub shape : after.shape ≡ before.shape
  pub depth : after.depth ≡ before.depth
  pub bytes : g.bytes after.file ≡ g.bytes before.file
  pub file : file_state g after.file ≡ file_state g before.file

-- the stores are the same but for their room to note reads
pub record AreSameStores {F : Type 0} (g : FileMeanings F) (before after : List (StoreView F)) : Type 0 where
  pub number : length after ≡ length before
  pub each : (k : ℕ) (d : StoreView F) → k < length before → IsSameStore g (slice_index_or before k d) (slice_index_or after k d)
