use Rattle.std.proofs.Common.{◌≡◌}
use Rattle.vt_replay_rows.proofs.beside.touch_used.Given as goal

-- the tiles stay
abbrev pub invariant-loop-part : goal.invariant-loop-part
invariant-loop-part l = record {
  size : l.tiles.size ≡ l.fn.tiles.size;
  slots : l.tiles.slots.items ≡ l.fn.tiles.slots.items;
  owners : l.tiles.owners.items ≡ l.fn.tiles.owners.items;
  bytes : l.tiles.bytes.items ≡ l.fn.tiles.bytes.items;
}
