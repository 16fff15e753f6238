-- What a pass does to the page table: which batch is lawful for a table, and the events that come of one.
use Rattle.std.specs.Prelude.{◌≡◌, ◌≢◌, ℕ, ◌<◌, Bool, true, false, Option, Some, None, MatchOption, List, [], ◌∷◌, ◌++◌, length, slice_get, slice_index_or, IsPermutation, count_by, flat_map, All, AllPairs}
use Rattle.std.specs.List.{range_with_len}
use Rattle.vt_pages.specs.Shape.{Shape}
use Rattle.vt_pages.specs.Pages.{pages_of, root_of}
use Rattle.vt_pictures.specs.JournalTypes.changes.Change.TheVariants.{Map, Unmap}
use Rattle.vt_pictures.specs.JournalTypes.changes.Event.{Event}
use Rattle.vt_pictures.specs.JournalTypes.changes.Event.TheVariants.{Changed, Lost}
use Rattle.vt_pictures.specs.Changes.{Table, IsFree}
use Rattle.vt_evict.specs.PlanTypes.batches.Planned.{Planned}

-- a page is mapped to this frame, and is not the root (Mayer 2010)
pub record IsVictimOf (s : Shape) (m : Table) (frame p : ℕ) : Type 0 where
  pub mapped : m p ≡ Some frame
  pub no_root : p ≢ root_of s

-- an entry's page is unmapped, and its frame is free, or its victim's
pub record IsEntryFor (s : Shape) (frames : ℕ) (m : Table) (e : Planned) : Type 0 where
  pub page_inside : e.page < pages_of s
  pub unmapped : m e.page ≡ None
  pub frame_inside : e.frame < frames
  pub place : MatchOption e.victim (IsFree m e.frame) (IsVictimOf s m e.frame)

-- a batch is lawful for a table: each entry is, and no page and no frame is in two
pub record IsBatchFor (s : Shape) (frames : ℕ) (m : Table) (batch : List Planned) : Type 0 where
  pub each : All (IsEntryFor s frames m) batch
  pub apart : AllPairs (λ a b. (a.page ≢ b.page) × (a.frame ≢ b.frame)) batch

-- the unmap of an entry's victim, if it has one
abbrev pub victim_events : Option ℕ → ℕ → List Event
victim_events None frame = []
victim_events (Some victim) frame = Changed (Unmap victim frame) ∷ []

-- the group of an entry: that it was lost; or, where it was read, what frees its frame and then what maps its page (van Waveren 2012)
abbrev pub group_of : Planned → Bool → List Event
group_of e true = Lost e.page ∷ []
group_of e false = victim_events e.victim e.frame ++ Changed (Map e.page e.frame) ∷ []

-- the group of the entry at a place of a batch, if there is one
abbrev pub group_if : Option Planned → Bool → List Event
group_if None lost = []
group_if (Some e) lost = group_of e lost

-- the group of a ticket, which is a place of the batch
abbrev pub group_at : List Planned → List Bool → ℕ → List Event
group_at batch losses ticket = group_if (slice_get batch ticket) (slice_index_or losses ticket true)

-- the events of a pass whose entries came in an order of tickets: their groups, one after another
abbrev pub pass_events : List Planned → List Bool → List ℕ → List Event
pass_events batch losses order = flat_map (group_at batch losses) order

-- the order has each ticket below a number once
abbrev pub IsOrder : ℕ → List ℕ → Type 0
IsOrder n order = IsPermutation (range_with_len 0 n) order

-- how many entries were lost
abbrev pub lost_count : List Bool → ℕ
lost_count losses = count_by (λ lost. lost) losses

-- the events of a pass are the groups of its batch in some order, where it is known of each entry whether it was lost
pub record IsOutcome (batch : List Planned) (losses : List Bool) (events : List Event) : Type 0 where
  pub reported : length losses ≡ length batch
  pub order : List ℕ
  pub each_once : IsOrder (length batch) order
  pub groups : events ≡ pass_events batch losses order
