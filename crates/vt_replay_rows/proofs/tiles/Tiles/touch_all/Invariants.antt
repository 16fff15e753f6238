use Rattle.std.proofs.Common.{◌≡◌}
use Rattle.vt_replay_rows.proofs.tiles.Tiles.touch_all.Given as goal

-- the tiles stay
abbrev pub invariant-loop-page : goal.invariant-loop-page
invariant-loop-page l = record {
  size : l.self.size ≡ l.fn.self.size;
  slots : l.self.slots.items ≡ l.fn.self.slots.items;
  owners : l.self.owners.items ≡ l.fn.self.owners.items;
  bytes : l.self.bytes.items ≡ l.fn.self.bytes.items;
}
