-- What a log says of versions of the page table, and of the words of frames.
use Rattle.std.specs.Prelude.{◌≡◌, ℕ, ◌<◌, ◌≤◌, Some, List, length, slice_index}
use Rattle.vt_definitions.specs.Depths.{word_at}
use Rattle.vt_pictures.specs.DrawLookups.{Note, EntryNote, WordNote}
use Rattle.vt_journal.specs.Changes.{at}
use Rattle.vt_swap_steps.specs.LogTypes.records.LogRecord.{LogRecord}
use Rattle.vt_swap_steps.specs.Logs.{changes_in}
use Rattle.vt_swap_steps.specs.LogWords.{HasWord, IsEntry}

-- a version of the log's journal maps a page to a frame, and the frame was filled with a tile of that page that has the word at a place
pub record IsWord (log : List LogRecord) (version frame place word : ℕ) : Type 0 where
  pub known : version ≤ length (changes_in log)
  pub page : ℕ
  pub mapped : at (changes_in log) version page ≡ Some frame
  pub has : HasWord log frame page place word

-- a log says what a note says
abbrev pub IsSaidBy : List LogRecord → Note → Type 0
IsSaidBy log (EntryNote version page entry) = IsEntry log version page entry
IsSaidBy log (WordNote version frame place word) = IsWord log version frame place word

-- words are those of the texels of a tile, row by row, whose samples have d bytes
pub record AreWordsOf (d texels : ℕ) (tile words : List ℕ) : Type 0 where
  pub count : length words ≡ texels
  pub each : (i : ℕ) → i < texels → slice_index words i ≡ word_at d tile i
