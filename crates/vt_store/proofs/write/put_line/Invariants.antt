use Rattle.std.proofs.Common.{◌≡◌, ℕ, ◌*◌, length}
use Rattle.vt_tiles.specs.TileLines.{GainsLine}
use Rattle.vt_store.proofs.write.put_line.Given as goal

abbrev pub invariant-loop-tile : goal.invariant-loop-tile
invariant-loop-tile l = (columns : ℕ) → length l.row ≡ l.size * columns
    → GainsLine l.size l.row columns l.side l.column l.line l.count l.tile l.fn.tiles l.tiles
