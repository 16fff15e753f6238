-- The plan: which pages are loaded next, and into which frames.
use Rattle.std.specs.Prelude.{ℕ, ◌+◌, ◌-◌, nat_lt, not, min, if◌then◌else◌, None, List, ◌++◌, map, length, slice_index, slice_get, reverse}
use Rattle.std.specs.List.{filter, range_with_len}
use Rattle.vt_feedback.specs.declared.Wanted.{Wanted}
use Rattle.vt_feedback.specs.Wants.{pages_wanted}
use Rattle.vt_plan.specs.declared.batches.Planned.{Planned}
use Rattle.vt_plan.specs.PageLists.{is_in}
use Rattle.vt_plan.specs.Missing.{missing_from}
use Rattle.vt_plan.specs.Orders.{line_pages}
use Rattle.vt_plan.specs.Views.{RecencyView, frame_of, free_frames}

-- the missing pages: the steps of the unmapped wanted pages, each once at its first place
unfoldable pub missing_pages : RecencyView → List Wanted → List ℕ
missing_pages v wants = missing_from v.shape v.entries (pages_wanted wants)

-- the pages that may be given up, the least recently used first: the unpinned mapped ones in no line of a wanted page (van Waveren 2012)
unfoldable pub candidates : RecencyView → List Wanted → List ℕ
candidates v wants = filter (λ p. not (is_in (line_pages v.shape (pages_wanted wants)) p)) (reverse v.order)

-- an entry of a plan: its missing page, and a free frame or the frame of a candidate, which is then its victim
abbrev pub planned_at : List ℕ → List ℕ → List ℕ → List ℕ → ℕ → Planned
planned_at entries missing free victims j = record {
  page = slice_index missing j;
  frame = slice_index (free ++ map (frame_of entries) victims) j;
  victim = if nat_lt j (length free) then None else slice_get victims (j - length free);
}

-- how many entries a plan has
abbrev pub planned_count : ℕ → List ℕ → List ℕ → List ℕ → ℕ
planned_count q missing free victims = min q (min (length missing) (length free + length victims))

-- the plan for a wanted list with at most q entries
unfoldable pub plan_of : RecencyView → List Wanted → ℕ → List Planned
plan_of v wants q =
    let missing = missing_pages v wants in
    let victims = candidates v wants in
    map (planned_at v.entries missing (free_frames v) victims) (range_with_len 0 (planned_count q missing (free_frames v) victims))

-- the plan for a wanted list by its missing pages
unfoldable pub plan_by : RecencyView → List Wanted → List ℕ → ℕ → List Planned
plan_by v wants missing q =
    let victims = candidates v wants in
    map (planned_at v.entries missing (free_frames v) victims) (range_with_len 0 (planned_count q missing (free_frames v) victims))
