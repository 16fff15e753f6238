use Rattle.std.proofs.Common.{ℕ, ◌*◌, ap, arith}
use Rattle.vt_tiles.proofs.Tiles.{row_small}
use Rattle.vt_tiles.proofs.texels.rows_above.Goals as goal

pub returns-clause-value : goal.returns-clause-value
returns-clause-value c = ap (λ (n : ℕ). c.args.name.row * n) c.tile.ensures.tile

pub returns-clause-few : goal.returns-clause-few
returns-clause-few c = omega (
  arith,
  row_small c.args.geometry.now c.args.name.level c.args.name.row c.tile.result c.tile.ensures.limits c.requires.row_inside c.tile.ensures.tile,
)
