use Rattle.std.proofs.Common.{◌≡◌, ℕ, ◌<◌, ◌==◌, false, Some}
use Rattle.std.specs.Prelude.{slice_get, slice_index_or}
use Rattle.vt_journal.specs.declared.changes.RowLine.{RowLine}
use Rattle.vt_replay_rows.proofs.version.mark_rows.Given as goal

-- the rows so far are marked
abbrev pub invariant-loop-y : goal.invariant-loop-y
invariant-loop-y l = record {
  marked : (z : ℕ) (row : RowLine) → z < l.y → slice_get l.rows z ≡ Some row → slice_index_or l.left z false ≡ (row.version == l.version);
}
