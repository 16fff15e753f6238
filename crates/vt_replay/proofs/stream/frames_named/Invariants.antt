use Rattle.std.proofs.Common.{◌≤◌}
use Rattle.vt_replay.proofs.stream.frames_named.Given as goal

-- the number is within its bounds
abbrev pub invariant-loop-version : goal.invariant-loop-version
invariant-loop-version l = record {
  some : 1 ≤ l.frames;
  few : l.frames ≤ l.most;
}
