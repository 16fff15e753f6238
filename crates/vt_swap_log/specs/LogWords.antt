-- What a log says of a version's entries, and of the words of a frame.
use Rattle.std.specs.Prelude.{◌≡◌, ℕ, ◌<◌, ◌≤◌, Some, List, length, slice_get, slice_index}
use Rattle.vt_journal.specs.Changes.{at}
use Rattle.vt_journal.specs.Kept.{entry_of}
use Rattle.vt_swap_log.specs.declared.records.LogRecord.{LogRecord}
use Rattle.vt_swap_log.specs.declared.records.LogRecord.TheVariants.{Filled}
use Rattle.vt_swap_log.specs.Logs.{changes_in}

-- the log tells that a frame was filled with a tile of a page that has the word at a place
pub record HasWord (log : List LogRecord) (frame page place word : ℕ) : Type 0 where
  pub number : ℕ
  pub words : List ℕ
  pub filled : slice_get log number ≡ Some (Filled frame page words)
  pub inside : place < length words
  pub word_is : slice_index words place ≡ word

-- a version of the log's journal has an entry for a page
pub record IsEntry (log : List LogRecord) (version page entry : ℕ) : Type 0 where
  pub known : version ≤ length (changes_in log)
  pub entry_is : entry_of entry ≡ at (changes_in log) version page
