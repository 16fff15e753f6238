use Rattle.std.proofs.Common.{◌≡◌, ◌≤◌}
use Rattle.vt_walk_commands.specs.commands.Trial.{other_bytes}
use Rattle.vt_walk_commands.proofs.commands.trial.count_other.Given as goal

abbrev pub invariant-loop-i : goal.invariant-loop-i
invariant-loop-i l = record {
  counted : l.count ≡ other_bytes l.a l.b l.i;
  few : l.count ≤ l.i;
}
