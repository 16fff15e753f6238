use Rattle.std.proofs.Common.{◌≡◌, length, map, take}
use Rattle.vt_residency.specs.Needs.{load_state_by}
use Rattle.vt_residency.proofs.needs.put_states.Given as goal

abbrev pub invariant-loop-i : goal.invariant-loop-i
invariant-loop-i l = record {
  long : length l.states ≡ length l.fn.states;
  written : take l.i l.states ≡ map (load_state_by l.tally.counts.items) (take l.i l.loads);
}
