use Rattle.std.proofs.Common.{◌≡◌, ◌*◌, ap, arith}
use Rattle.vt_store.proofs.Tiles.{column_small}
use Rattle.vt_tiles.proofs.Tiles.{row_small}
use Rattle.vt_store.proofs.Widening.{tile_begins}
use Rattle.vt_store.proofs.write.size_inside.Goals as goal

pub overflow_mul-name : goal.overflow_mul-name
overflow_mul-name c = omega (
  arith,
  column_small c.args.geometry.now c.page_at-name.result.level c.page_at-name.result.col
      c.tile-side.result c.tile-side.ensures.limits c.page_at-name.ensures.in_chain.col_inside c.tile-side.ensures.tile,
)

pub overflow_sub-width : goal.overflow_sub-width
overflow_sub-width c =
    let begins = tile_begins c.args.geometry.now c.args.page c.page_at-name.result c.tile-side.ensures.limits c.page_at-name.ensures.in_chain in
    let width = ap (λ v. v.0) c.level_size-width.ensures.size in
    let along : c.page_at-name.result.col * c.tile-side.result ≡ c.page_at-name.result.col * c.args.geometry.now.tile =
    ap (λ n. c.page_at-name.result.col * n) c.tile-side.ensures.tile in
    omega (arith, begins.0, width, along)

pub overflow_mul-name-2 : goal.overflow_mul-name-2
overflow_mul-name-2 c = omega (
  arith,
  row_small c.args.geometry.now c.page_at-name.result.level c.page_at-name.result.row
      c.tile-side.result c.tile-side.ensures.limits c.page_at-name.ensures.in_chain.row_inside c.tile-side.ensures.tile,
)

pub overflow_sub-height : goal.overflow_sub-height
overflow_sub-height c =
    let begins = tile_begins c.args.geometry.now c.args.page c.page_at-name.result c.tile-side.ensures.limits c.page_at-name.ensures.in_chain in
    let height = ap (λ v. v.1) c.level_size-width.ensures.size in
    let along : c.page_at-name.result.row * c.tile-side.result ≡ c.page_at-name.result.row * c.args.geometry.now.tile =
    ap (λ n. c.page_at-name.result.row * n) c.tile-side.ensures.tile in
    omega (arith, begins.1, height, along)

pub returns-clause-some : goal.returns-clause-some
returns-clause-some c =
    let begins = tile_begins c.args.geometry.now c.args.page c.page_at-name.result c.tile-side.ensures.limits c.page_at-name.ensures.in_chain in
    let width = ap (λ v. v.0) c.level_size-width.ensures.size in
    let height = ap (λ v. v.1) c.level_size-width.ensures.size in
    let along : c.page_at-name.result.col * c.tile-side.result ≡ c.page_at-name.result.col * c.args.geometry.now.tile =
    ap (λ n. c.page_at-name.result.col * n) c.tile-side.ensures.tile in
    let down : c.page_at-name.result.row * c.tile-side.result ≡ c.page_at-name.result.row * c.args.geometry.now.tile =
    ap (λ n. c.page_at-name.result.row * n) c.tile-side.ensures.tile in (
      omega (arith, begins.0, width, along, c.min-columns.ensures, c.tile-side.ensures.limits.least_tile, c.tile-side.ensures.tile),
      omega (arith, begins.1, height, down, c.min-rows.ensures, c.tile-side.ensures.limits.least_tile, c.tile-side.ensures.tile),
    )
