-- The line of a page ends at the root.
use Rattle.std.proofs.Common.{◌≡◌, ℕ, ◌-◌, ◌≤◌, ◌<◌, Option, Some, None, sym, ap, ◌∙◌, arith}
use Rattle.std.specs.Prelude.{IsSome}
use Rattle.vt_pages.specs.Shape.{Shape}
use Rattle.vt_pages.specs.Pages.{levels_of, pages_of, IsWithinLimits, level_of, ancestor_of, root_of}
use Rattle.vt_pages.proofs.Lines.{reaches_root}
use Rattle.vt_journal.specs.Changes.{Table}

mapped_or_not : (o : Option ℕ) → IsSome o → o ≡ None → ⊥
mapped_or_not None is none = cc
mapped_or_not (Some frame) is none = cc

-- where the root is mapped, not all pages of a line are unmapped
pub line_is_mapped : (s : Shape) (m : Table) (p top : ℕ) → IsWithinLimits s → p < pages_of s → level_of s p < levels_of s → levels_of s ≤ top
    → IsSome (m (root_of s)) → ((k : ℕ) → level_of s p ≤ k → k < top → m (ancestor_of s p k) ≡ None) → ⊥
unfolding ancestor_of
line_is_mapped s m p top limits inside below past root none =
    let some : 2 ≤ s.tile = limits.least_tile in
    let ends = (reaches_root s p (omega arith) limits.least_width limits.least_height inside).ends in
    mapped_or_not (m (root_of s)) root (ap m (sym ends) ∙ none (levels_of s - 1) (omega arith) (omega arith))
