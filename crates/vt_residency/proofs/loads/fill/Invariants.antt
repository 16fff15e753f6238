use Rattle.std.proofs.Common.{◌≡◌, length, map, take, drop}
use Rattle.vt_residency.specs.Loads.{load_in}
use Rattle.vt_residency.proofs.loads.fill.Given as goal

abbrev pub invariant-loop-i : goal.invariant-loop-i
invariant-loop-i l = record {
  long : length l.out ≡ length l.fn.out;
  rest : drop l.i l.out ≡ drop l.i l.fn.out;
  loads : take l.i l.out ≡ map load_in (take l.i l.batch);
}
