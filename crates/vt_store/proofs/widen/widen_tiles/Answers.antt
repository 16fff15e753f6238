use Rattle.std.proofs.Common.{◌≡◌, ℕ, ◌∙◌, inr, refl, subst, length, arith}
use Rattle.vt_tiles.specs.Format.{stored}
use Rattle.vt_tiles.specs.TileLines.{HasLines}
use Rattle.vt_store.specs.Widening.{widened}
use Rattle.vt_store.proofs.Tiles.{tiles_are}
use Rattle.vt_store.proofs.Widening.{next_wide_tile, are_bytes, wide_room}
use Rattle.vt_store.proofs.widen.widen_tiles.Goals as goal

pub loop-tile-preserved : goal.loop-tile-preserved
loop-tile-preserved c = λ b store piece.
    let room = wide_room c.loop-tile.tile c.args.count c.tile-side.result c.args.geometry.now.tile (length c.args.wide.now)
    c.loop-tile-test.true c.tile-side.ensures.tile c.requires.room in
    next_wide_tile c.args.geometry.now b c.args.narrow.now _ c.loop-tile.wide c.widen_tile.new.out c.args.first c.args.count c.loop-tile.tile
    c.tile-side.result c.size_inside-columns.result.0 c.size_inside-columns.result.1 _ _ _ _ c.tile-side.ensures.limits store
    (are_bytes c.args.narrow.now (λ i. omega (arith, c.type_inv.narrow i))) piece c.requires.tiles c.loop-tile-test.true
    c.requires.pages c.tile-side.ensures.tile
    c.size_inside-columns.ensures.columns c.size_inside-columns.ensures.rows refl (omega arith) (omega (arith, room)) (omega (arith, room))
    refl refl (omega arith)
    c.widen_tile.ensures (c.loop-tile.invariant b store piece)

pub returns : goal.returns
returns c = λ b store piece.
    let e : c.loop-tile.tile ≡ c.args.count = omega arith in
    let All : ℕ → Type 0 = λ n. HasLines c.args.geometry.now 2 (widened (stored b)) c.args.first n c.args.geometry.now.tile c.loop-tile.wide in
    tiles_are c.args.geometry.now 2 (widened (stored b)) c.args.first c.args.count c.loop-tile.wide (inr refl)
    (omega (arith, c.tile-side.ensures.limits.least_tile)) (c.loop-tile.auto.wide ∙ c.requires.room)
    (subst All e (c.loop-tile.invariant b store piece))
