-- Batches of pages to be loaded, and what a table is after one.
use Rattle.std.specs.Prelude.{◌≡◌, ◌≢◌, ℕ, ◌+◌, ◌<◌, nat_eq, Bool, Contains, true, false, not, Option, None, Some, MatchOption, List, [], ◌∷◌, ◌++◌, map, length, slice_index}
use Rattle.std.specs.List.{All, AllPairs, filter, list_any}
use Rattle.vt_plan.specs.Pages.{pages_of}
use Rattle.vt_plan.specs.declared.batches.Planned.{Planned}
use Rattle.vt_plan.specs.Views.{RecencyView}

-- no page has a frame
abbrev pub IsFreePage : List ℕ → ℕ → Type 0
IsFreePage entries f = (p : ℕ) → slice_index entries p ≢ f + 1

-- a page is unpinned and has a frame
pub record IsVictim (v : RecencyView) (f p : ℕ) : Type 0 where
  pub unpinned : p + v.pinned < pages_of v.shape
  pub held : slice_index v.entries p ≡ f + 1

-- an entry's page is unpinned and unmapped, and its frame is free, or its victim's
pub record IsLawfulEntry (v : RecencyView) (e : Planned) : Type 0 where
  pub unpinned : e.page + v.pinned < pages_of v.shape
  pub unmapped : slice_index v.entries e.page ≡ 0
  pub frame_inside : e.frame < v.frames
  pub place : MatchOption e.victim (IsFreePage v.entries e.frame) (IsVictim v e.frame)

-- a batch is lawful for a table: each entry is, and no page and no frame is in two
pub record IsLawfulBatch (v : RecencyView) (batch : List Planned) : Type 0 where
  pub each : All (IsLawfulEntry v) batch
  pub apart : AllPairs (λ a b. (a.page ≢ b.page) × (a.frame ≢ b.frame)) batch

-- the entries of a batch whose tiles were read
abbrev pub read_entries : List Planned → List Bool → List Planned
read_entries [] lost = []
read_entries (e ∷ batch) [] = []
read_entries (e ∷ batch) (true ∷ lost) = read_entries batch lost
read_entries (e ∷ batch) (false ∷ lost) = e ∷ read_entries batch lost

-- a page is this one
abbrev pub is_page : ℕ → Option ℕ → Bool
is_page p None = false
is_page p (Some q) = nat_eq q p

-- a page is the victim of an entry
abbrev pub is_victim : List Planned → ℕ → Bool
is_victim reads p = list_any (λ e. is_page p e.victim) reads

-- a page is that of an entry
abbrev pub is_read : List Planned → ℕ → Bool
is_read reads p = list_any (λ e. nat_eq e.page p) reads

-- the table after the entries that were read: their pages have their frames, their victims none, and other pages what they had
pub record IsSettledTable (old : List ℕ) (reads : List Planned) (new : List ℕ) : Type 0 where
  pub same_length : length new ≡ length old
  pub mapped : (e : Planned) → Contains reads e → slice_index new e.page ≡ e.frame + 1
  pub unmapped : (p : ℕ) → is_victim reads p ≡ true → slice_index new p ≡ 0
  pub kept : (p : ℕ) → is_read reads p ≡ false → is_victim reads p ≡ false → slice_index new p ≡ slice_index old p

-- the order after the entries that were read: their pages first, in the order of the batch, and then the others without the victims
unfoldable pub settled_order : List ℕ → List Planned → List ℕ
settled_order order reads = map (λ e. e.page) reads ++ filter (λ p. not (is_victim reads p)) order

-- the table and the order after the entries that were read
pub record IsSettledByReads (old : RecencyView) (reads : List Planned) (new : RecencyView) : Type 0 where
  pub shape : new.shape ≡ old.shape
  pub frames : new.frames ≡ old.frames
  pub pinned : new.pinned ≡ old.pinned
  pub table : IsSettledTable old.entries reads new.entries
  pub order : new.order ≡ settled_order old.order reads
