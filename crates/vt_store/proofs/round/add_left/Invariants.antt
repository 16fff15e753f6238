use Rattle.std.proofs.Common.{◌≡◌, ◌+◌, ◌++◌, length}
use Rattle.rtrb.specs.Ring.{known_items, received, sent}
use Rattle.vt_outside.specs.Effects.{folder_effect}
use Rattle.vt_store.specs.Rounds.{HoldsRows}
use Rattle.vt_store.specs.Steps.{AsksNoPlace}
use Rattle.vt_store.proofs.round.add_left.Given as goal

abbrev pub invariant-loop : goal.invariant-loop
invariant-loop g l = record {
  fifo : received l.adding.rows ++ known_items l.adding.rows ≡ sent l.fn.making.rows;
  left : length (known_items l.adding.rows) + l.counter ≡ l.left;
  adds : HoldsRows l.name (received l.fn.adding.rows) (received l.adding.rows) (folder_effect g.D.Folder l.fn.folder l.folder);
  asks : AsksNoPlace (folder_effect g.D.Folder l.fn.folder l.folder);
}
