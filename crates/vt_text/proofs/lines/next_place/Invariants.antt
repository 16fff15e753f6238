use Rattle.vt_text.specs.Lines.{IsAbsentBetween}
use Rattle.vt_text.proofs.lines.next_place.Given as goal

abbrev pub invariant-loop-place : goal.invariant-loop-place
invariant-loop-place l = IsAbsentBetween l.byte l.text l.at l.place
