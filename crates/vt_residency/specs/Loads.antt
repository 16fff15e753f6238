-- Loads that are under way.
use Rattle.std.specs.Prelude.{◌≡◌, ℕ, ◌<◌, ◌≤◌, nat_eq, Bool, not, ◌||◌, Option, None, Some, List, map, take, drop, length}
use Rattle.std.specs.List.{list_any}
use Rattle.vt_evict.specs.PlanTypes.batches.Planned.{Planned}
use Rattle.vt_residency.specs.declared.loads.Load.{Load}

-- a page, or the number that stands for none
abbrev pub page_in : Option ℕ → ℕ
page_in None = 4294967295
page_in (Some p) = p

-- a load as a caller sees it
abbrev pub load_in : Planned → Load
load_in e = record { page = e.page; frame = e.frame; victim = page_in e.victim }

-- the number of loads is told, and where a list has room for them they are at its front; else the list is as it was
pub record HasLoads (batch : List Planned) (old : List Load) (n : ℕ) (new : List Load) : Type 0 where
  pub count : n ≡ length batch
  pub long : length new ≡ length old
  pub loads : n ≤ length old → take n new ≡ map load_in batch
  pub rest : n ≤ length old → drop n new ≡ drop n old
  pub kept : length old < n → new ≡ old

-- two loads have the same page or the same frame
abbrev pub is_same : Planned → Planned → Bool
is_same e l = nat_eq l.page e.page || nat_eq l.frame e.frame

-- an entry has neither the page nor the frame of one of some loads
abbrev pub is_apart : List Planned → Planned → Bool
is_apart loads e = not (list_any (is_same e) loads)
