use Rattle.std.proofs.Common.{◌≡◌, ℕ, ◌<◌, ◌≤◌, None}
use Rattle.vt_pages.specs.Pages.{level_of, ancestor_of}
use Rattle.vt_journal.specs.Kept.{entries_of}
use Rattle.vt_replay_rows.proofs.replay_lookup.finest_mapped.Given as goal

-- no finer page of the line is mapped
abbrev pub invariant-loop-level : goal.invariant-loop-level
invariant-loop-level l = record {
  unmapped : (k : ℕ) → level_of l.geometry l.fn.page ≤ k → k < l.level → entries_of l.table.entries.items (ancestor_of l.geometry l.fn.page k) ≡ None;
}
