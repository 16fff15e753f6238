use Rattle.std.proofs.Common.{◌≡◌, ◌+◌, ◌*◌, ◌≤◌, ℕ, length, refl, subst, arith}
use Rattle.vt_tiles.specs.TileLines.{GainsLine}
use Rattle.vt_store.proofs.Lines.{next_tile, line_small, bytes_small, line_inside, columns_few, line_begins}
use Rattle.vt_store.proofs.write.put_line.Goals as goal

pub overflow_mul-at-in-loop-tile : goal.overflow_mul-at-in-loop-tile
overflow_mul-at-in-loop-tile c = omega (
  arith,
  line_small c.loop-tile.tile c.args.column c.args.count c.args.side c.args.line c.loop-tile-test.true
      c.requires.few c.requires.side c.requires.line,
)

pub overflow_add-at : goal.overflow_add-at
overflow_add-at c = omega (
  arith,
  line_small c.loop-tile.tile c.args.column c.args.count c.args.side c.args.line c.loop-tile-test.true
      c.requires.few c.requires.side c.requires.line,
)

pub overflow_mul-at-in-loop-tile-3 : goal.overflow_mul-at-in-loop-tile-3
overflow_mul-at-in-loop-tile-3 c =
    let small = line_small c.loop-tile.tile c.args.column c.args.count c.args.side c.args.line c.loop-tile-test.true
    c.requires.few c.requires.side c.requires.line in
    let place : ℕ = c.loop-tile.tile * (c.args.side * c.args.side) + c.args.line * c.args.side in
    let few : c.args.size * place ≤ 6 * 4210688 = bytes_small c.args.size place 4210688 c.requires.small (omega (arith, small)) in
    omega (arith, few)

pub overflow_add-at-in-loop-tile : goal.overflow_add-at-in-loop-tile
overflow_add-at-in-loop-tile c =
    let small = line_small c.loop-tile.tile c.args.column c.args.count c.args.side c.args.line c.loop-tile-test.true
    c.requires.few c.requires.side c.requires.line in
    let end : ℕ = c.loop-tile.tile * (c.args.side * c.args.side) + c.args.line * c.args.side + c.args.side in
    let few : c.args.size * end ≤ 6 * 4210688 = bytes_small c.args.size end 4210688 c.requires.small small in
    omega (arith, few)

pub slice_bounds-put_span-end : goal.slice_bounds-put_span-end
slice_bounds-put_span-end c = line_inside c.loop-tile.tile c.args.count c.args.side c.args.line c.args.size (length c.loop-tile.tiles)
    c.loop-tile-test.true c.requires.line (omega arith)

pub overflow_add-column : goal.overflow_add-column
overflow_add-column c =
    let few = columns_few c.loop-tile.tile c.args.column c.args.count c.args.side c.loop-tile-test.true c.requires.few (omega arith) in
    omega (arith, few.0)

pub overflow_mul-column : goal.overflow_mul-column
overflow_mul-column c =
    let few = columns_few c.loop-tile.tile c.args.column c.args.count c.args.side c.loop-tile-test.true c.requires.few (omega arith) in
    omega (arith, few.1)

pub overflow_mul-size-in-loop-tile : goal.overflow_mul-size-in-loop-tile
overflow_mul-size-in-loop-tile c =
    let few = columns_few c.loop-tile.tile c.args.column c.args.count c.args.side c.loop-tile-test.true c.requires.few (omega arith) in
    omega (arith, bytes_small c.args.size ((c.args.column + c.loop-tile.tile) * c.args.side) 32768 c.requires.small few.1)

pub put_span-requires-clause-inside : goal.put_span-requires-clause-inside
put_span-requires-clause-inside c = line_begins c.loop-tile.tile c.args.column c.args.count c.args.side c.args.size (length c.args.row.now)
    c.loop-tile-test.true (c.requires.inside (omega arith))

pub loop-tile-preserved : goal.loop-tile-preserved
loop-tile-preserved c = λ columns full. next_tile c.args.size c.args.row.now c.args.tiles.now c.loop-tile.tiles c.put_span.new.out
    columns c.args.side c.args.column c.args.line c.args.count c.loop-tile.tile _ _ c.requires.line c.loop-tile-test.true
    (let inside = line_inside c.loop-tile.tile c.args.count c.args.side c.args.line c.args.size (length c.loop-tile.tiles)
    c.loop-tile-test.true c.requires.line (omega arith) in omega (arith, inside))
    refl (omega arith) (omega arith)
    (c.put_span.ensures columns ((c.args.column + c.loop-tile.tile) * c.args.side) c.args.side full refl (omega arith))
    (c.loop-tile.invariant columns full)

pub returns : goal.returns
returns c = λ columns full.
    let all : c.loop-tile.tile ≡ c.args.count = omega arith in
    subst (λ (n : ℕ). GainsLine c.args.size c.args.row.now columns c.args.side c.args.column c.args.line c.args.count n c.args.tiles.now
    c.loop-tile.tiles) all (c.loop-tile.invariant columns full)
