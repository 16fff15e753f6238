-- The versions of a page table with the contents of its frames: each change is published with the words of its frame.
use Rattle.std.specs.Prelude.{◌≡◌, ◌≢◌, ◌<◌, ℕ, zero, suc, ◌==◌, if◌then◌else◌, Option, Some, None, List, [], slice_get, slice_index_or}
use Rattle.vt_journal.specs.declared.changes.Change.{Change}
use Rattle.vt_journal.specs.declared.changes.Change.TheVariants.{Map, Unmap}
use Rattle.vt_journal.specs.Lookups.{change_page}

-- for each page that is mapped its frame, and the content that it was mapped with
abbrev pub Backing : Type 0
Backing = ℕ → Option (ℕ × List ℕ)

-- no page is mapped
abbrev pub nothing_backed : Backing
nothing_backed p = None

-- the frames and contents after a change, if there is one, that was published with a content
abbrev pub backed_by : Backing → Option Change → List ℕ → Backing
backed_by m None content p = m p
backed_by m (Some (Map page frame)) content p = if p == page then Some (frame, content) else m p
backed_by m (Some (Unmap page frame)) content p = if p == page then None else m p

-- the frames and contents of a version
unfoldable pub backed : List Change → List (List ℕ) → ℕ → Backing
backed changes contents zero = nothing_backed
backed changes contents (suc v) = backed_by (backed changes contents v) (slice_get changes v) (slice_index_or contents v [])

-- the frame alone
abbrev pub frame_in : Option (ℕ × List ℕ) → Option ℕ
frame_in None = None
frame_in (Some b) = Some b.0

-- before a version the page was last changed by a map to the frame, with this content
pub record IsPutBy (changes : List Change) (contents : List (List ℕ)) (v page frame : ℕ) (content : List ℕ) : Type 0 where
  pub by : ℕ
  pub before : by < v
  pub change : slice_get changes by ≡ Some (Map page frame)
  pub brought : slice_index_or contents by [] ≡ content
  pub last : (u : ℕ) (d : Change) → by < u → u < v → slice_get changes u ≡ Some d → change_page d ≢ page
