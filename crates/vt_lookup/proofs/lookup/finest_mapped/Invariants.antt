use Rattle.std.proofs.Common.{◌≡◌, ℕ, ◌-◌, ◌/◌, ◌^◌, ◌<◌, ◌≤◌}
use Rattle.std.specs.Prelude.{◌≢◌}
use Rattle.vt_pages.specs.Pages.{level_of, name_at, ancestor_of, root_of}
use Rattle.vt_pictures.specs.DrawLookups.{EntryNote}
use Rattle.vt_grace.specs.Tokens.{IsHeldOf}
use Rattle.vt_lookup.specs.Notes.{IsNotedIn, HasNotedMore}
use Rattle.vt_lookup.proofs.lookup.finest_mapped.Given as goal

-- the column and the row are those of the page's ancestor at the level; each finer page of the line was noted as unmapped, and is not the root
abbrev pub invariant-loop-level : goal.invariant-loop-level
invariant-loop-level l = record {
  of : IsHeldOf l.words l.held;
  version : l.held.version ≡ l.fn.held.version;
  more : HasNotedMore l.fn.held.view l.held.view;
  col : l.col ≡ (name_at l.geometry l.fn.page).col / 2 ^ (l.level - level_of l.geometry l.fn.page);
  row : l.row ≡ (name_at l.geometry l.fn.page).row / 2 ^ (l.level - level_of l.geometry l.fn.page);
  unmapped : (k : ℕ) → level_of l.geometry l.fn.page ≤ k → k < l.level
      → IsNotedIn l.held.view (EntryNote l.held.version (ancestor_of l.geometry l.fn.page k) 0);
  above : (k : ℕ) → level_of l.geometry l.fn.page ≤ k → k < l.level → ancestor_of l.geometry l.fn.page k ≢ root_of l.geometry;
}
