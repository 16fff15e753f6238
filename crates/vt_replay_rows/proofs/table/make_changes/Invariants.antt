use Rattle.vt_replay_rows.specs.Following.{Follows}
use Rattle.vt_replay_rows.proofs.table.make_changes.Given as goal

-- the table has come so far
abbrev pub invariant-loop-made : goal.invariant-loop-made
invariant-loop-made l = record { follows : Follows l.geometry l.journal.changes l.entries l.made }
