use Rattle.std.proofs.Common.{◌≡◌, ◌*◌, ◌≤◌, take, length}
use Rattle.std.specs.List.{flat_map}
use Rattle.vt_residency.specs.Changes.{load_changes}
use Rattle.vt_residency.proofs.changes.change_count.Given as goal

abbrev pub invariant-loop-load : goal.invariant-loop-load
invariant-loop-load l = record {
  count : l.count ≡ length (flat_map load_changes (take l.load-index l.loads));
  few : l.count ≤ 2 * l.load-index;
}
