-- The four banks of entries and the frames, over the versions that a sampler may still hold.
use Rattle.std.specs.Prelude.{◌≡◌, ◌≢◌, ℕ, ◌+◌, ◌<◌, ◌≤◌, List, Some, slice_index}
use Rattle.vt_journal.specs.declared.changes.Change.{Change}
use Rattle.vt_journal.specs.Changes.{Table, at, newest, changed}
use Rattle.vt_journal.specs.Lookups.{change_page}
use Rattle.vt_grace.specs.declared.sizes.Sizes.{Sizes}
use Rattle.vt_grace.specs.declared.views.WriterView.{WriterView}
use Rattle.vt_grace.specs.Changes.{IsNextKeeping}
use Rattle.vt_grace.specs.Contents.{Backing}
use Rattle.vt_grace.specs.Places.{entry_place, texel_place, bank_of}
use Rattle.vt_grace.specs.WriterViews.{version_of, floor_of}
use Rattle.vt_grace.specs.Notes.{entry_number}

-- a bank is as a table says
abbrev pub StandsForTable : Sizes → List ℕ → Table → ℕ → Type 0
StandsForTable z entries m bank = (page : ℕ) → page < z.pages → slice_index entries (entry_place z bank page) ≡ entry_number (m page)

-- each frame that is mapped holds the content that its page was mapped with
abbrev pub AreFilled : Sizes → List ℕ → Backing → Type 0
AreFilled z texels m = (page frame : ℕ) (content : List ℕ) → m page ≡ Some (frame, content)
    → (place : ℕ) → place < z.texels → slice_index texels (texel_place z frame place) ≡ slice_index content place

-- the window: the versions from the least floor to the newest, which are all that a sampler may still hold
abbrev pub IsInWindow : WriterView → ℕ → Type 0
IsInWindow w v = (v ≤ version_of w) × ((k : ℕ) × (k < w.sizes.samplers) × (floor_of w k ≤ v))

-- no floor is more than two versions behind, so the next bank serves no version of the window
abbrev pub MayWriteNext : WriterView → Type 0
MayWriteNext w = (k : ℕ) → k < w.sizes.samplers → version_of w ≤ floor_of w k + 2

-- no version of the window maps the frame
abbrev pub MayFill : WriterView → ℕ → Type 0
MayFill w frame = (v : ℕ) → IsInWindow w v → (page : ℕ) → at w.journal v page ≢ Some frame

-- the change is legal next, and the bank of the next version is as it says
pub record MayPublishBank (w : WriterView) (change : Change) : Type 0 where
  pub page : change_page change < w.sizes.pages
  pub next : IsNextKeeping w.sizes.root (newest w.journal) change
  pub stands : StandsForTable w.sizes w.entries (changed (newest w.journal) change) (bank_of (version_of w + 1))
