use Rattle.std.proofs.Common.{◌≡◌, ◌-◌, ◌*◌, ◌++◌, take}
use Rattle.vt_plain.specs.Parts.{rows_until}
use Rattle.vt_plain.proofs.parts.draw_rows.Given as goal

-- the rows so far were written
abbrev pub invariant-loop-y : goal.invariant-loop-y
invariant-loop-y g l = rows_until (g.R.Rows.bytes l.rows) l.first ++ take (l.size * (l.y - l.first)) l.out ≡ rows_until (g.R.Rows.bytes l.rows) l.y
