-- The entries of a page table, and what a change makes of them.
use Rattle.std.specs.Prelude.{◌≡◌, ℕ, ◌+◌, ◌%◌, ◌^◌, ◌<◌, ◌≤◌, List, length, slice_index, slice_set}
use Rattle.vt_journal.specs.Limits.{most_versions}
use Rattle.vt_journal.specs.declared.changes.Change.{Change}
use Rattle.vt_journal.specs.declared.changes.Change.TheVariants.{Map, Unmap}
use Rattle.vt_journal.specs.Changes.{newest}
use Rattle.vt_journal.specs.Kept.{entry_of}

-- the entries after a change: a mapped page has 1 more than its frame, and an unmapped one 0
abbrev pub changed_entries : List ℕ → Change → List ℕ
changed_entries entries (Map page frame) = slice_set entries page ((frame + 1) % 2 ^ 32)
changed_entries entries (Unmap page frame) = slice_set entries page 0

-- a version and its entries, of so many pages, are those at the end of a journal
pub record IsAt (pages : ℕ) (journal : List Change) (version : ℕ) (entries : List ℕ) : Type 0 where
  pub count : length entries ≡ pages
  pub version_is : version ≡ length journal
  pub early : length journal ≤ most_versions
  pub entries_are : (page : ℕ) → page < length entries → entry_of (slice_index entries page) ≡ newest journal page
