use Rattle.std.proofs.Common.{◌≤◌, ◌-◌, length}
use Rattle.vt_ppm.specs.Header.{IsGapFront}
use Rattle.vt_ppm.proofs.field.gap_run.Given as goal

abbrev pub invariant-loop-comment : goal.invariant-loop-comment
invariant-loop-comment l = record { some : 1 ≤ l.at; front : IsGapFront l.bytes l.at }

abbrev pub decreases-loop-comment : goal.decreases-loop-comment
decreases-loop-comment l = length l.bytes - l.at
