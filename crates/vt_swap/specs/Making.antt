-- A page cache that is new.
use Rattle.std.specs.Prelude.{◌≡◌, false, []}
use Rattle.vt_swap_steps.specs.Caches.{Cache}
use Rattle.vt_swap.specs.Readers.{ReaderView}
use Rattle.vt_swap.specs.Streamers.{StreamerView}

-- a writer has done nothing
pub record IsNewStreamer (v : StreamerView) : Type 0 where
  pub log : v.log ≡ []
  pub journal : v.journal ≡ []
  pub goes_on : v.broken ≡ false

-- a reader of this cache has seen and entered nothing
abbrev pub IsNewReader : Cache → ReaderView → Type 0
IsNewReader cache r = r ≡ record { cache = cache; log = []; entered = [] }
