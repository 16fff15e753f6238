-- The four banks between two publications, and the stores that lead the next one on to the next version.
use Rattle.std.specs.Prelude.{◌≡◌, ◌≢◌, ℕ, ◌+◌, ◌-◌, ◌<◌, Some, List, [], ◌∷◌, ◌++◌, slice_get, slice_index}
use Rattle.vt_table.specs.JournalTypes.changes.Change.{Change}
use Rattle.vt_table.specs.JournalTypes.changes.Change.TheVariants.{Map, Unmap}
use Rattle.vt_table.specs.Changes.{at}
use Rattle.vt_table.specs.Lookups.{change_page}
use Rattle.vt_table.specs.JournalKept.{change_frame}
use Rattle.vt_grace.specs.declared.sizes.Sizes.{Sizes}
use Rattle.vt_grace.specs.declared.views.WriterView.{WriterView}
use Rattle.vt_grace.specs.WriterViews.{version_of}
use Rattle.vt_grace.specs.Places.{entry_place, bank_of, content_of}
use Rattle.vt_grace.specs.Banks.{StandsForTable}
use Rattle.vt_streamer.specs.Looks.{HasOnlyLooked}

-- the entry that a change gives its page
abbrev pub new_entry : Change → ℕ
new_entry (Map page frame) = frame + 1
new_entry (Unmap page frame) = 0

-- page and frame of a change are the table's
pub record IsChangeInside (z : Sizes) (change : Change) : Type 0 where
  pub page_inside : change_page change < z.pages
  pub frame_inside : change_frame change < z.frames

-- and those of each change
abbrev pub AreChangesInside : Sizes → List Change → Type 0
AreChangesInside z changes = (v : ℕ) (change : Change) → slice_get changes v ≡ Some change → IsChangeInside z change

-- the four banks are those of the newest four versions, where a version before 0 maps nothing
abbrev pub AreRotated : WriterView → Type 0
AreRotated w = (i : ℕ) → i < 4 → StandsForTable w.sizes w.entries (at w.journal (version_of w - i)) (bank_of (version_of w + 4 - i))

-- only the bank of the next version was written
pub record HasWrittenBank (v w : WriterView) : Type 0 where
  pub rest : w ≡ record v { entries = w.entries }
  pub others : (bank page : ℕ) → bank ≢ bank_of (version_of v + 1) → page < v.sizes.pages
      → slice_index w.entries (entry_place v.sizes bank page) ≡ slice_index v.entries (entry_place v.sizes bank page)

-- a change was published, with the words of its frame, after looks at samplers and stores into the next bank
pub record HasPublished (v w : WriterView) (change : Change) : Type 0 where
  pub journal : w.journal ≡ v.journal ++ change ∷ []
  pub contents : w.contents ≡ v.contents ++ content_of v.sizes v.texels change ∷ []
  pub rest : w ≡ record v { journal = w.journal; contents = w.contents; entries = w.entries; floors = w.floors; looks = w.looks }
  pub looked : HasOnlyLooked v (record v { floors = w.floors; looks = w.looks })
