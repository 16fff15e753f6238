use Rattle.std.proofs.Common.{ℕ, ◌<◌, ◌≤◌}
use Rattle.vt_pages.specs.Pages.{level_of, ancestor_of}
use Rattle.vt_swap_steps.specs.LogWords.{IsEntry}
use Rattle.vt_swap.proofs.lookup.finest_mapped.Given as goal

-- no finer page of the line is mapped
abbrev pub invariant-loop-level : goal.invariant-loop-level
invariant-loop-level l = record {
  unmapped : (k : ℕ) → level_of l.geometry l.fn.page ≤ k → k < l.level
      → IsEntry l.table.front.seen.log l.table.version (ancestor_of l.geometry l.fn.page k) 0;
}
