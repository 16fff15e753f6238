use Rattle.std.proofs.Common.{◌≡◌, ℕ, ◌-◌, ◌/◌, ◌^◌, ◌<◌, ◌≤◌, None}
use Rattle.vt_pages.specs.Pages.{level_of, name_at, ancestor_of}
use Rattle.vt_table.specs.Changes.{newest}
use Rattle.vt_sampler.proofs.lookup.finest_mapped.Given as goal

-- the column and the row are those of the page's ancestor at the level, and no finer page of the line is mapped
abbrev pub invariant-loop-level : goal.invariant-loop-level
invariant-loop-level l = record {
  col : l.col ≡ (name_at l.geometry l.fn.page).col / 2 ^ (l.level - level_of l.geometry l.fn.page);
  row : l.row ≡ (name_at l.geometry l.fn.page).row / 2 ^ (l.level - level_of l.geometry l.fn.page);
  unmapped : (k : ℕ) → level_of l.geometry l.fn.page ≤ k → k < l.level → newest l.table.changes (ancestor_of l.geometry l.fn.page k) ≡ None;
}
