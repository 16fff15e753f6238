-- What is said by the notes of entries and of words that were read under holds.
use Rattle.std.specs.Prelude.{List, Contains, ◌≡◌, ℕ, ◌++◌, Some, [], slice_get, slice_index_or}
use Rattle.vt_sampler.specs.Lookups.{Note, EntryNote, WordNote}
use Rattle.vt_sampler.specs.GraceTypes.views.EntryNote.{EntryNote as ReadEntry}
use Rattle.vt_sampler.specs.GraceTypes.views.WordNote.{WordNote as ReadWord}
use Rattle.vt_sampler.specs.GraceTypes.views.WriterView.{WriterView}
use Rattle.vt_tiles.specs.Shape.{Shape}
use Rattle.vt_streaming.specs.Paths.{PathView}
use Rattle.vt_sampler.specs.Shots.{shot_row}
use Rattle.vt_journal.specs.declared.changes.RowLine.{RowLine}
use Rattle.vt_sampler.specs.PicturesTypes.filters.Filter.{Ghosts as FilterMeanings}
use Rattle.vt_sampler.specs.Evidence.{AreShown}

-- a note is among those of the entries or those of the words that were read
abbrev pub IsAmong : List ReadEntry → List ReadWord → Note → Type 0
IsAmong entries words (EntryNote version page entry) = Contains entries (record { version = version; page = page; entry = entry })
IsAmong entries words (WordNote version frame place word) = Contains words (record { version = version; frame = frame; place = place; word = word })

-- a note is among those of the passes that a writer took back
abbrev pub IsNotedBy : WriterView → Note → Type 0
IsNotedBy w = IsAmong w.notes w.word_notes

-- the writer has noted each of these entries and words
pub record HasNoted (w : WriterView) (entries : List ReadEntry) (words : List ReadWord) : Type 0 where
  pub each_entry : (n : ReadEntry) → Contains entries n → Contains w.notes n
  pub each_word : (n : ReadWord) → Contains words n → Contains w.word_notes n

-- a writer has noted what another has
abbrev pub HasNotesOf : WriterView → WriterView → Type 0
HasNotesOf w v = HasNoted w v.notes v.word_notes

-- between two views of a writer notes were added, and each row of a picture was drawn by a filter by these alone, at the version that its line names
pub record AreNotedRows {P : Type 0} (filter : FilterMeanings P) (s : Shape) (d : ℕ) (v w : WriterView) (path : PathView) (i : ℕ)
    (lines : List RowLine) (rows : List (List ℕ)) : Type 0 where
  pub entries : List ReadEntry
  pub words : List ReadWord
  pub noted : w.notes ≡ entries ++ v.notes
  pub worded : w.word_notes ≡ words ++ v.word_notes
  pub each : (y : ℕ) (line : RowLine) → slice_get lines y ≡ Some line
      → AreShown filter.shown s d line.version (IsAmong entries words) (shot_row s path i y) path.width (slice_index_or rows y [])
