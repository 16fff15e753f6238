use Rattle.std.proofs.Common.{ℕ, ◌+◌, ◌-◌, ◌/◌, ◌<◌, ◌≤◌, ap, arith}
use Rattle.std.proofs.lemmas.Nat.{div_below}
use Rattle.vt_store.proofs.Tiles.{columns_are}
use Rattle.vt_store.proofs.write.tile_columns.Goals as goal

columns_most : (w t : ℕ) → 1 ≤ t → w ≤ 16384 → (w + t - 1) / t ≤ 16384
columns_most w t some few =
    let below : (w + t - 1) / t < 16385 = div_below (w + t - 1) t 16385 (omega arith) (omega arith) in
    omega arith

pub returns-clause-value : goal.returns-clause-value
returns-clause-value c =
    columns_are c.args.geometry.now c.args.level c.level_size-width.result.0 c.tile-side.result
    (ap (λ v. v.0) c.level_size-width.ensures.size) c.tile-side.ensures.tile

pub returns-clause-few : goal.returns-clause-few
returns-clause-few c =
    columns_most c.level_size-width.result.0 c.tile-side.result
    (omega (arith, c.tile-side.ensures.tile, c.tile-side.ensures.limits.least_tile))
    (omega (arith, c.level_size-width.ensures.most, c.level_size-width.ensures.limits.most_width))
