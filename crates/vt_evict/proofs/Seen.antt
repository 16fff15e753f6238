-- What a recency's fields say, as callers see it.
use Rattle.std.proofs.Common.{ℕ, List}
use Rattle.vt_plan.specs.Shape.{Shape}
use Rattle.vt_plan.specs.Views.{RecencyView}

-- the view of some fields
abbrev pub view_of : Shape → ℕ → ℕ → List ℕ → List ℕ → RecencyView
view_of shape frames pinned entries order = record { shape = shape; frames = frames; pinned = pinned; entries = entries; order = order }
