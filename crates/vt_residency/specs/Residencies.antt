-- What is seen of a residency: the table with the order of its pages, the loads that are under way, and what came last.
use Rattle.std.specs.Prelude.{◌≡◌, ℕ, ◌+◌, ◌-◌, ◌≤◌, not, nat_eq, Bool, None, List, [], ◌++◌, map, length}
use Rattle.std.specs.List.{filter, flat_map, range_with_len}
use Rattle.vt_pages.specs.Limits.{most_frames}
use Rattle.vt_outside.specs.Lists.{ListView}
use Rattle.vt_pages.specs.Shape.{Shape}
use Rattle.vt_pages.specs.Pages.{pages_of}
use Rattle.vt_feedback.specs.declared.Wanted.{Wanted}
use Rattle.vt_feedback.specs.Wants.{IsWants}
use Rattle.vt_evict.specs.PlanTypes.batches.Planned.{Planned}
use Rattle.vt_plan.specs.Views.{RecencyView, IsRecencyTable, free_frames, touched, first_view}
use Rattle.vt_evict.specs.Batches.{IsLawfulBatch, IsSettledByReads, read_entries}
use Rattle.vt_plan.specs.Plans.{plan_of}
use Rattle.vt_residency.specs.Tallies.{IsTally}
use Rattle.vt_residency.specs.Loads.{is_apart}
use Rattle.vt_residency.specs.Changes.{load_changes}
use Rattle.vt_residency.specs.declared.residency.Info.{Info}

-- the table, the loads that are under way, and the loads that came by the last settling
pub record ResidencyView : Type 0 where
  pub table : RecencyView
  pub loads : List Planned
  pub came : List Planned

-- what always holds of a residency: its loads are lawful for its table, and no pixel is counted
pub record IsResidency (s : Shape) (v : RecencyView) (counts : List ℕ) (pages : ListView ℕ) (loads came : List Planned) : Type 0 where
  pub shape : v.shape ≡ s
  pub table : IsRecencyTable v
  pub tally : IsTally (pages_of s) counts pages
  pub none : pages.elements ≡ []
  pub lawful : IsLawfulBatch v loads
  pub few_loads : length loads ≤ most_frames
  pub few_came : length came ≤ most_frames

-- the pinned page of a frame, as a load that has come
abbrev pub pinned_at : Shape → ℕ → ℕ → Planned
pinned_at s pinned i = record { page = pages_of s - pinned + i; frame = i; victim = None }

-- the residency of so many frames with the last so many pages pinned, before its first pass: these have come
abbrev pub first_residency : Shape → ℕ → ℕ → ResidencyView
first_residency s frames pinned = record { table = first_view s frames pinned; loads = []; came = map (pinned_at s pinned) (range_with_len 0 pinned) }

-- the table and the loads after a pass: the wanted list of the pixels was touched, and of its plan the entries that have neither the page
-- nor the frame of a load under way were added
pub record IsPlanned (s : Shape) (v : RecencyView) (before : List Planned) (pixels : ℕ → ℕ) (q : ℕ) (w : RecencyView) (more : List Planned) : Type 0 where
  pub wants : List Wanted
  pub wanted : IsWants s pixels wants
  pub table : w ≡ touched v wants
  pub loads : more ≡ before ++ filter (is_apart before) (plan_of w wants q)

-- after a pass
pub record IsPassed (old : ResidencyView) (pixels : ℕ → ℕ) (q : ℕ) (new : ResidencyView) : Type 0 where
  pub planned : IsPlanned old.table.shape old.table old.loads pixels q new.table new.loads
  pub came : new.came ≡ old.came

-- after a pass that was refused memory: at most the order changed
pub record IsResidencyKept (old new : ResidencyView) : Type 0 where
  pub shape : new.table.shape ≡ old.table.shape
  pub entries : new.table.entries ≡ old.table.entries
  pub loads : new.loads ≡ old.loads
  pub came : new.came ≡ old.came

-- a load did not come, by a caller's number for it
abbrev pub has_not_come : ℕ → Bool
has_not_come state = not (nat_eq state 0)

-- a load is not under way any more, by a caller's number for it
abbrev pub is_over : ℕ → Bool
is_over state = not (nat_eq state 2)

-- after a settling: the loads that came are settled and told, and those that are under way stay so
pub record IsCommitted (old : ResidencyView) (states : List ℕ) (new : ResidencyView) : Type 0 where
  pub settled : IsSettledByReads old.table (read_entries old.loads (map has_not_come states)) new.table
  pub came : new.came ≡ read_entries old.loads (map has_not_come states)
  pub loads : new.loads ≡ read_entries old.loads (map is_over states)

-- the numbers of a residency
pub record IsInfo (v : ResidencyView) (i : Info) : Type 0 where
  pub pages : i.pages ≡ pages_of v.table.shape
  pub free : i.free ≡ length (free_frames v.table)
  pub loads : i.loads ≡ length v.loads
  pub changes : i.changes ≡ length (flat_map load_changes v.came)
