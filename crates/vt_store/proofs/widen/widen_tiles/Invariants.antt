use Rattle.std.proofs.Common.{ℕ, List}
use Rattle.vt_outside.specs.Files.{IsPiece}
use Rattle.vt_tiles.specs.Format.{stored, tile_start}
use Rattle.vt_tiles.specs.StoreViews.{IsStore}
use Rattle.vt_tiles.specs.TileLines.{HasLines}
use Rattle.vt_store.specs.Widening.{widened}
use Rattle.vt_store.proofs.widen.widen_tiles.Given as goal

abbrev pub invariant-loop-tile : goal.invariant-loop-tile
invariant-loop-tile l = (b : List ℕ) → IsStore b l.geometry 1 → IsPiece b (tile_start l.geometry 1 l.first) l.narrow
    → HasLines l.geometry 2 (widened (stored b)) l.first l.tile l.geometry.tile l.wide
