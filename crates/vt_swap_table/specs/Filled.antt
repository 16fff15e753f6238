-- Frames that were filled with tiles of a store.
use Rattle.std.specs.Prelude.{◌≡◌, ℕ, Option, Some, List, slice_get}
use Rattle.vt_journal.specs.Shape.{Shape}
use Rattle.vt_page_table.specs.Fills.{IsStoredPage}
use Rattle.vt_swap.specs.LogTypes.records.LogRecord.{LogRecord}
use Rattle.vt_swap.specs.LogTypes.records.LogRecord.TheVariants.{Filled}

-- each frame was filled with the words of its page's tile
abbrev pub AreStoredFills : Shape → ℕ → Option (List ℕ) → List LogRecord → Type 0
AreStoredFills s d known log = (n frame page : ℕ) (words : List ℕ) → slice_get log n ≡ Some (Filled frame page words)
    → IsStoredPage s d known page words
