use Rattle.std.proofs.Common.{◌≡◌, ℕ, ◌+◌, ◌-◌, ◌<◌, ◌≤◌, Some}
use Rattle.vt_journal.specs.Changes.{newest}
use Rattle.vt_tests_cache.proofs.sampler.tables.table_from.Given as goal

-- the pages so far are mapped, to the frames in order, and no other is
abbrev pub invariant-loop-page : goal.invariant-loop-page
invariant-loop-page l = record {
  shape : l.table.shape ≡ l.geometry;
  frames : l.table.frames + l.from ≡ 5;
  spare : 5 ≤ l.table.spare + l.page;
  some : (p f : ℕ) → newest l.table.changes p ≡ Some f → (p < l.page) × (f + l.from ≡ p);
  each : (p : ℕ) → l.from ≤ p → p < l.page → newest l.table.changes p ≡ Some (p - l.from);
}
