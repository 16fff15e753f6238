use Rattle.rtrb.specs.Ring.{SameProducer, sent}
use Rattle.vt_store.specs.Rounds.{AreRows, StripsRead}
use Rattle.vt_store.specs.StripSteps.{strips_state}
use Rattle.vt_store.proofs.round.make_some.Given as goal

abbrev pub invariant-loop-strip : goal.invariant-loop-strip
invariant-loop-strip g l = record {
  ring : SameProducer l.fn.making.rows l.making.rows;
  strips : StripsRead l.geometry l.strip (strips_state g.F.File l.fn.chain l.fn.half) (strips_state g.F.File l.chain l.half);
  tiles : AreRows l.geometry l.strip (strips_state g.F.File l.fn.chain l.fn.half) (sent l.making.rows);
}
