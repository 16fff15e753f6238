use Rattle.std.proofs.Common.{◌≡◌, ◌≤◌, ◌-◌, length, drop, slice_get}
use Rattle.vt_text.specs.Lines.{fields_of}
use Rattle.vt_text.proofs.lines.field.Given as goal

abbrev pub invariant-loop-skipped : goal.invariant-loop-skipped
invariant-loop-skipped l = record {
  within : l.start ≤ length l.line;
  few : l._skipped ≤ l.i;
  left : slice_get (fields_of l.line) l.i ≡ slice_get (fields_of (drop l.start l.line)) (l.i - l._skipped);
}
