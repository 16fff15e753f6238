use Rattle.std.proofs.Common.{◌≡◌}
use Rattle.rtrb.specs.Ring.{received, SameConsumer}
use Rattle.vt_store.proofs.ring.has_row.Given as goal

abbrev pub invariant-loop-looks : goal.invariant-loop-looks
invariant-loop-looks l = record {
  ring : SameConsumer l.fn.ring l.ring;
  received : received l.ring ≡ received l.fn.ring;
}
