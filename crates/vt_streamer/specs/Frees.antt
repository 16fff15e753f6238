-- Since which version no page is mapped to a frame.
use Rattle.std.specs.Prelude.{◌≡◌, ◌≢◌, ℕ, zero, suc, ◌-◌, ◌≤◌, Some, List, length, slice_get, slice_set}
use Rattle.vt_table.specs.JournalTypes.changes.Change.{Change}
use Rattle.vt_table.specs.JournalTypes.changes.Change.TheVariants.{Map, Unmap}
use Rattle.vt_table.specs.Changes.{at}

-- no version from this one to the newest maps a page to the frame
abbrev pub IsFreeFrom : List Change → ℕ → ℕ → Type 0
IsFreeFrom changes frame since = (v page : ℕ) → since ≤ v → v ≤ length changes → at changes v page ≢ Some frame

-- this version unmapped the frame, and no later one maps a page to it
pub record IsUnmappedBy (changes : List Change) (frame version : ℕ) : Type 0 where
  pub some : 1 ≤ version
  pub known : version ≤ length changes
  pub page : ℕ
  pub change : slice_get changes (version - 1) ≡ Some (Unmap page frame)
  pub free : IsFreeFrom changes frame version

-- a number for a frame: 0 where no version maps a page to it, and else the version that unmapped it last
abbrev pub IsFreeSince : List Change → ℕ → ℕ → Type 0
IsFreeSince changes frame zero = IsFreeFrom changes frame 0
IsFreeSince changes frame (suc v) = IsUnmappedBy changes frame (suc v)

-- the numbers of the frames after a change that makes a version
abbrev pub since_after : List ℕ → Change → ℕ → List ℕ
since_after since (Map page frame) version = since
since_after since (Unmap page frame) version = slice_set since frame version
