use Rattle.rtrb.specs.Ring.{SameConsumer, received}
use Rattle.vt_outside.specs.Effects.{folder_effect}
use Rattle.vt_store.specs.Rounds.{HoldsRows}
use Rattle.vt_store.specs.Steps.{AsksNoPlace}
use Rattle.vt_store.proofs.round.add_made.Given as goal

abbrev pub invariant-loop : goal.invariant-loop
invariant-loop g l = record {
  ring : SameConsumer l.fn.adding.rows l.adding.rows;
  adds : HoldsRows l.name (received l.fn.adding.rows) (received l.adding.rows) (folder_effect g.D.Folder l.fn.folder l.folder);
  asks : AsksNoPlace (folder_effect g.D.Folder l.fn.folder l.folder);
}
