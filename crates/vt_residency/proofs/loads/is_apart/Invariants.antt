use Rattle.std.proofs.Common.{◌≡◌, false, take}
use Rattle.std.specs.List.{list_any}
use Rattle.vt_residency.specs.Loads.{is_same}
use Rattle.vt_residency.proofs.loads.is_apart.Given as goal

abbrev pub invariant-loop-load : goal.invariant-loop-load
invariant-loop-load l = list_any (is_same l.entry) (take l.load-index l.loads) ≡ false
