use Rattle.vt_store.specs.Rings.{AreNewRings}
use Rattle.vt_store.proofs.ring.make_rings.Given as goal

abbrev pub invariant-loop : goal.invariant-loop
invariant-loop l = AreNewRings l.making.rows l.adding.rows
