use Rattle.std.proofs.Common.{◌≤◌}
use Rattle.vt_replay_rows.proofs.beside.count_left.Given as goal

-- no more than so many rows
abbrev pub invariant-loop-k : goal.invariant-loop-k
invariant-loop-k l = l.count ≤ l.k
