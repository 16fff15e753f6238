use Rattle.std.proofs.Common.{◌-◌, length}
use Rattle.vt_replay.proofs.Scanning.{IsScanned}
use Rattle.vt_replay.proofs.judge.first_outside.Given as goal

-- the lines so far name no picture outside the path
abbrev pub invariant-lines : goal.invariant-lines
invariant-lines l = IsScanned l.pictures l.text l.at l.number

abbrev pub decreases-lines : goal.decreases-lines
decreases-lines l = length l.text - l.at
