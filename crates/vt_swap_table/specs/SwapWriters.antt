-- What the writer of the swapped table has done and knows.
use Rattle.std.specs.Prelude.{◌≡◌, ℕ, ◌≤◌, false, Option, None, Some, List, length, slice_get, Contains}
use mathlib.Core.List.{IsPrefix}
use Rattle.vt_definitions.specs.Limits.{most_frames}
use Rattle.vt_swap.specs.LogTypes.frame.FrameKey.{FrameKey}
use Rattle.vt_swap.specs.LogTypes.records.LogRecord.TheVariants.{Filled}
use Rattle.vt_swap.specs.Slots.{AreSlotsOf}
use Rattle.vt_swap.specs.Readers.{ReaderView}
use Rattle.vt_swap.specs.Streamers.{StreamerView}
use Rattle.vt_swap_table.specs.declared.table.SwapReader.{SwapReader}

-- the slots are those of a writer's frames
pub record AreSlotsFor (slots : List FrameKey) (v : StreamerView) : Type 0 where
  pub slots_are : AreSlotsOf v.cache slots
  pub some : 1 ≤ length slots
  pub few : length slots ≤ most_frames

-- a writer that goes on has filled a frame with these words for a page
pub record HasFilledPage (v : StreamerView) (page : ℕ) (words : List ℕ) : Type 0 where
  pub goes_on : v.broken ≡ false
  pub number : ℕ
  pub frame : ℕ
  pub filled : slice_get v.log number ≡ Some (Filled frame page words)

-- what a writer did it did, and more
pub record HasLogged (v w : StreamerView) : Type 0 where
  pub cache : w.cache ≡ v.cache
  pub log : IsPrefix v.log w.log

-- what a reader has seen is a beginning of what a writer did
abbrev pub IsKnownIf : StreamerView → Option ReaderView → Type 0
IsKnownIf v None = ⊥
IsKnownIf v (Some r) = (r.cache ≡ v.cache) × IsPrefix r.log v.log

-- and it is the same one at home
pub record HasComeHome (v : StreamerView) (o home : Option ReaderView) : Type 0 where
  pub known : IsKnownIf v o
  pub same : home ≡ o

-- a reader of a writer's table entered a version
pub record WasEnteredBy (v : StreamerView) (a : SwapReader) (version : ℕ) : Type 0 where
  pub reader : ReaderView
  pub has : a.reader ≡ Some reader
  pub of : reader.cache ≡ v.cache
  pub entered : Contains reader.entered version
