use Rattle.std.proofs.Common.{◌≡◌, ◌+◌, ◌-◌, ◌*◌, ◌≤◌, ℕ, length, refl, subst, sym, ap, ◌∙◌, arith}
use Rattle.vt_pages.specs.declared.PageName.{PageName}
use Rattle.vt_pages.specs.Shape.{Shape}
use Rattle.vt_pages.specs.Pages.{name_at, columns_at}
use Rattle.vt_tiles.specs.TileLines.{HasLines}
use Rattle.vt_store.proofs.Tiles.{columns_small, column_begins, tiles_are}
use Rattle.vt_store.proofs.TileRows.{more_lines, row_inside_rows}
use Rattle.vt_store.proofs.Widening.{cut_length}
use Rattle.vt_store.proofs.write.put_tiles.Goals as goal

in_row : (geometry : Shape) (first count : ℕ) (name : PageName) → name ≡ name_at geometry first
    → (name_at geometry first).col + count ≤ columns_at geometry (name_at geometry first).level
    → name.col + count ≤ columns_at geometry name.level
in_row geometry first count name e h = let P : PageName → Type 0 = λ n. n.col + count ≤ columns_at geometry n.level in subst P (sym e) h

pub slice_bounds-put_line-end : goal.slice_bounds-put_line-end
slice_bounds-put_line-end c = omega (
  arith,
  row_inside_rows c.args.geometry.now c.args.depth c.args.first c.min.result c.texel_length-size.result c.level_size-width.result.0
      (length c.args.rows.now) c.page_at-name.result c.page_at-name.ensures.name
      (omega (arith, c.min.ensures, c.size_inside-inside.ensures.rows, c.size_inside-inside.ensures.some.1))
      c.texel_length-size.ensures.value (ap (λ v. v.0) c.level_size-width.ensures.size) c.requires.rows,
)

pub put_line-requires-clause-inside : goal.put_line-requires-clause-inside
put_line-requires-clause-inside c = λ some.
    let name = c.page_at-name.result in
    let row = in_row c.args.geometry.now c.args.first c.args.count name c.page_at-name.ensures.name c.requires.row in
    let z : ℕ = c.texel_length-size.result in
    let w : ℕ = c.level_size-width.result.0 in
    let from : ℕ = z * w * c.min.result in
    let room = row_inside_rows c.args.geometry.now c.args.depth c.args.first c.min.result z w
    (length c.args.rows.now) name c.page_at-name.ensures.name
    (omega (arith, c.min.ensures, c.size_inside-inside.ensures.rows, c.size_inside-inside.ensures.some.1))
    c.texel_length-size.ensures.value (ap (λ v. v.0) c.level_size-width.ensures.size) c.requires.rows in
    column_begins c.args.geometry.now name.level (name.col + c.args.count - 1) c.tile-side.result _ w z
    c.tile-side.ensures.limits (omega arith) c.tile-side.ensures.tile (ap (λ v. v.0) c.level_size-width.ensures.size)
    (cut_length c.args.rows.now (from + z * w - from) from (omega (arith, room)) ∙ omega arith)

pub put_line-requires-clause-few : goal.put_line-requires-clause-few
put_line-requires-clause-few c =
    let name = c.page_at-name.result in
    columns_small c.args.geometry.now name.level (name.col + c.args.count) c.tile-side.result c.tile-side.ensures.limits
    (in_row c.args.geometry.now c.args.first c.args.count name c.page_at-name.ensures.name c.requires.row) c.tile-side.ensures.tile

pub loop-line-preserved : goal.loop-line-preserved
loop-line-preserved c = λ src has.
    let name = c.page_at-name.result in
    let z : ℕ = c.texel_length-size.result in
    let w : ℕ = c.level_size-width.result.0 in
    let from : ℕ = z * w * c.min.result in
    let room = row_inside_rows c.args.geometry.now c.args.depth c.args.first c.min.result z w
    (length c.args.rows.now) name c.page_at-name.ensures.name
    (omega (arith, c.min.ensures, c.size_inside-inside.ensures.rows, c.size_inside-inside.ensures.some.1))
    c.texel_length-size.ensures.value (ap (λ v. v.0) c.level_size-width.ensures.size) c.requires.rows in
    more_lines c.args.geometry.now c.args.depth src c.args.first c.args.count c.loop-line.line c.min.result z w c.level_size-width.result.1
    c.tile-side.result c.size_inside-inside.result.1 from (from + z * w - from) name c.args.rows.now c.loop-line.tiles c.put_line.new.tiles
    c.tile-side.ensures.limits c.page_at-name.ensures.in_chain c.page_at-name.ensures.undone c.page_at-name.ensures.name
    c.tile-side.ensures.tile c.texel_length-size.ensures.value (ap (λ v. v.0) c.level_size-width.ensures.size)
    (ap (λ v. v.1) c.level_size-width.ensures.size) c.level_size-width.ensures.some.0 c.size_inside-inside.ensures.rows
    c.size_inside-inside.ensures.some.1 c.loop-line-test.true c.min.ensures
    (in_row c.args.geometry.now c.args.first c.args.count name c.page_at-name.ensures.name c.requires.row) refl (omega arith) has
    (c.put_line.ensures w (cut_length c.args.rows.now (from + z * w - from) from (omega (arith, room)) ∙ omega arith))
    (c.loop-line.invariant src has)

pub returns : goal.returns
returns c = λ src has.
    let e : c.loop-line.line ≡ c.args.geometry.now.tile = omega (arith, c.tile-side.ensures.tile) in
    let All : ℕ → Type 0 = λ n. HasLines c.args.geometry.now c.args.depth src c.args.first c.args.count n c.loop-line.tiles in
    tiles_are c.args.geometry.now c.args.depth src c.args.first c.args.count c.loop-line.tiles
    c.requires.depth (omega (arith, c.tile-side.ensures.limits.least_tile)) (c.loop-line.auto.tiles ∙ c.requires.room)
    (subst All e (c.loop-line.invariant src has))
