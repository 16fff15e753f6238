-- The entries of a plan: which missing page gets which frame.
use Rattle.std.specs.Prelude.{ℕ, ◌+◌, ◌-◌, None, Some, List, slice_index}
use Rattle.vt_plan.specs.declared.batches.Planned.{Planned}

-- an entry of a plan whose frame is free
abbrev pub freed_at : List ℕ → List ℕ → ℕ → Planned
freed_at missing free j = record { page = slice_index missing j; frame = slice_index free j; victim = None }

-- an entry of a plan at a place, with a victim
abbrev pub taken_with : List ℕ → List ℕ → ℕ → ℕ → Planned
taken_with entries missing place victim = record { page = slice_index missing place; frame = slice_index entries victim - 1; victim = Some victim }

-- an entry of a plan that has a victim, after so many that have none
abbrev pub taken_at : List ℕ → List ℕ → List ℕ → ℕ → ℕ → Planned
taken_at entries missing victims before j = taken_with entries missing (before + j) (slice_index victims j)
