use Rattle.vt_definitions.specs.Texels.{Source}
use Rattle.vt_tiles.specs.TileLines.{HasLines, HasTileRows}
use Rattle.vt_store.proofs.write.put_tiles.Given as goal

abbrev pub invariant-loop-line : goal.invariant-loop-line
invariant-loop-line l = (src : Source) → HasTileRows l.geometry l.depth src l.first l.rows → HasLines l.geometry l.depth src l.first l.count l.line l.tiles
