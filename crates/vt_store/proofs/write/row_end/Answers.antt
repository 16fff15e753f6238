use Rattle.std.proofs.Common.{arith}
use Rattle.vt_store.proofs.Tiles.{columns_fall, row_inside}
use Rattle.vt_store.proofs.write.row_end.Goals as goal

pub returns-clause-inside : goal.returns-clause-inside
returns-clause-inside c =
    omega (
      arith,
      c.page_at-name.ensures.undone,
      row_inside c.args.geometry.now c.page_at-name.result
          c.page_at-name.ensures.in_chain,
      c.tile_columns.ensures.value,
    )

pub returns-clause-short : goal.returns-clause-short
returns-clause-short c =
    omega (arith, columns_fall c.args.geometry.now c.page_at-name.result.level c.page_at-name.ensures.limits, c.tile_columns.ensures.value)
