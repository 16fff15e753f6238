-- The entries of the recency are those of the journal's table.
use Rattle.std.specs.Prelude.{◌≡◌, ℕ, ◌+◌, Option, None, Some, slice_index}
use Rattle.vt_journal.specs.Changes.{Table}
use Rattle.vt_plan.specs.Views.{RecencyView}

-- the entry of a page: 0 for unmapped, else its frame and 1
abbrev pub entry_number_of : Option ℕ → ℕ
entry_number_of None = 0
entry_number_of (Some frame) = frame + 1

-- the recency has the entry of each page in the table
abbrev pub RecencyAgrees : RecencyView → Table → Type 0
RecencyAgrees v m = (p : ℕ) → slice_index v.entries p ≡ entry_number_of (m p)
