-- What the writer of shared words has done and knows.
use Rattle.std.specs.Prelude.{◌≡◌, ℕ, Option, None, Some, List, [], ◌++◌, slice_get, slice_index_or, Contains}
use Rattle.vt_journal.specs.declared.changes.Change.{Change}
use Rattle.vt_journal.specs.declared.changes.Change.TheVariants.{Map}
use Rattle.vt_sampler.specs.Lookups.{Note}
use Rattle.vt_sampler.specs.GraceTypes.views.EntryNote.{EntryNote as ReadEntry}
use Rattle.vt_sampler.specs.GraceTypes.views.WordNote.{WordNote as ReadWord}
use Rattle.vt_sampler.specs.GraceTypes.views.PassView.{PassView}
use Rattle.vt_sampler.specs.GraceTypes.views.Returned.{Returned}
use Rattle.vt_sampler.specs.GraceTypes.views.WriterView.{WriterView}
use Rattle.vt_sampler.specs.Values.{PassValue}
use Rattle.vt_sampler.specs.LookupNotes.{IsNotedIn}
use Rattle.vt_word_notes.specs.Noted.{IsAmong}

-- a change of a journal mapped the page, and was published with these words
pub record IsMappedWith (journal : List Change) (contents : List (List ℕ)) (page : ℕ) (words : List ℕ) : Type 0 where
  pub by : ℕ
  pub frame : ℕ
  pub change : slice_get journal by ≡ Some (Map page frame)
  pub content : slice_index_or contents by [] ≡ words

-- a writer took passes back, with their notes
pub record HasTakenMore (v w : WriterView) : Type 0 where
  pub returned : List Returned
  pub returned_are : w.returned ≡ returned ++ v.returned
  pub entries : List ReadEntry
  pub noted : w.notes ≡ entries ++ v.notes
  pub words : List ReadWord
  pub worded : w.word_notes ≡ words ++ v.word_notes

-- between two views of a writer passes were taken back, among them this one of a sampler, and with the notes of these its notes
pub record CameHome (v w : WriterView) (number : ℕ) (p : PassView) : Type 0 where
  pub taken : HasTakenMore v w
  pub among : Contains taken.returned (record { sampler = number; given = p.given; held = p.held })
  pub notes : (note : Note) → IsNotedIn p note → IsAmong taken.entries taken.words note

abbrev pub CameHomeIf : WriterView → WriterView → ℕ → Option PassValue → Type 0
CameHomeIf v w number None = ⊥
CameHomeIf v w number (Some p) = CameHome v w number p.view

-- a pass of this sampler that held a version was taken back
pub record WasBack (w : WriterView) (number version : ℕ) : Type 0 where
  pub by : Returned
  pub among : Contains w.returned by
  pub sampler : by.sampler ≡ number
  pub held : Contains by.held version
