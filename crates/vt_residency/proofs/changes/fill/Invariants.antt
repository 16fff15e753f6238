use Rattle.std.proofs.Common.{◌≡◌, take, drop, length}
use Rattle.std.specs.List.{flat_map}
use Rattle.vt_residency.specs.Changes.{load_changes}
use Rattle.vt_residency.proofs.changes.fill.Given as goal

abbrev pub invariant-loop-load : goal.invariant-loop-load
invariant-loop-load l = record {
  count : l.count ≡ length (flat_map load_changes (take l.load-index l.loads));
  written : take l.count l.out ≡ flat_map load_changes (take l.load-index l.loads);
  rest : drop l.count l.out ≡ drop l.count l.fn.out;
  long : length l.out ≡ length l.fn.out;
}
