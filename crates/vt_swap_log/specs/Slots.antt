-- Which frame a slot is; there is one for each frame.
use Rattle.std.specs.Prelude.{◌≡◌, ℕ, ◌<◌, List, length, slice_index_or}
use Rattle.vt_swap_log.specs.declared.frame.FrameKey.{FrameKey}
use Rattle.vt_swap_log.specs.Caches.{Cache, cache_of}

-- a slot is that of a frame of this cache
pub record IsSlotOf (cache : Cache) (frame : ℕ) (key : FrameKey) : Type 0 where
  pub frame_is : key.frame ≡ frame
  pub cache_is : cache_of key.front ≡ cache

-- each slot is that of the frame at its place
abbrev pub AreFirstSlots : Cache → List FrameKey → Type 0
AreFirstSlots cache slots = (k : ℕ) (d : FrameKey) → k < length slots → IsSlotOf cache k (slice_index_or slots k d)

-- and there is one for each frame
pub record AreSlotsOf (cache : Cache) (slots : List FrameKey) : Type 0 where
  pub count : length slots ≡ cache.frames
  pub each : AreFirstSlots cache slots
