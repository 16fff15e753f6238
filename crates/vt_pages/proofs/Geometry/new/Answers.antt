use Rattle.std.proofs.Common.{arith}
use Rattle.vt_pages.specs.Shape.{shape_of}
use Rattle.vt_pages.specs.Tables.{IsTileShift}
use Rattle.vt_pages.proofs.Making.{refusal_tile, refusal_side, refusal_pages, made, limits_hold}
use Rattle.vt_pages.proofs.Geometry.new.Goals as goal

pub returns-in_default-clause-err : goal.returns-in_default-clause-err
returns-in_default-clause-err c = refusal_tile (shape_of c.args.width c.args.height c.args.tile) c.in_default.ensures

pub returns-then-not-are_texture_sides-clause-err : goal.returns-then-not-are_texture_sides-clause-err
returns-then-not-are_texture_sides-clause-err c =
    let shift : IsTileShift c.args.tile c.in-Some.shift = c.in-Some.ensures in
    refusal_side (shape_of c.args.width c.args.height c.args.tile) shift.lawful cc

pub overflow_mul-pages : goal.overflow_mul-pages
overflow_mul-pages c =
    let is = made c.make_tables-tables.ensures c.last_level-last.ensures c.in-Some.ensures (cc) in
    omega (arith, is.product)

pub overflow_add-pages : goal.overflow_add-pages
overflow_add-pages c =
    let is = made c.make_tables-tables.ensures c.last_level-last.ensures c.in-Some.ensures (cc) in
    rw is.pages (omega (arith, is.few_pages))

pub returns-then-pages-gt-MOST_PAGES-clause-err : goal.returns-then-pages-gt-MOST_PAGES-clause-err
returns-then-pages-gt-MOST_PAGES-clause-err c =
    let is = made c.make_tables-tables.ensures c.last_level-last.ensures c.in-Some.ensures (cc) in
    let shift : IsTileShift c.args.tile c.in-Some.shift = c.in-Some.ensures in
    let pages = is.pages in
    let s = shape_of c.args.width c.args.height c.args.tile in
    rw pages (refusal_pages s shift.lawful (cc) (rw pages at c.if-pages-gt-MOST_PAGES.true))

pub invariant_of-result : goal.invariant_of-result
invariant_of-result c =
    let is = made c.make_tables-tables.ensures c.last_level-last.ensures c.in-Some.ensures (cc) in
    let few = rw is.pages at c.if-pages-gt-MOST_PAGES.false in
    let s = shape_of c.args.width c.args.height c.args.tile in
    record {
      limits = limits_hold s c.in-Some.shift c.in-Some.ensures (cc) few is.few_levels;
      tile_is = c.in-Some.ensures;
      levels_is = is.levels;
      pages_is = is.pages;
      tabled = c.make_tables-tables.ensures;
    }

pub returns-clause-limits : goal.returns-clause-limits
returns-clause-limits c =
    let is = made c.make_tables-tables.ensures c.last_level-last.ensures c.in-Some.ensures (cc) in
    let s = shape_of c.args.width c.args.height c.args.tile in
    limits_hold s c.in-Some.shift c.in-Some.ensures (cc) (rw is.pages at c.if-pages-gt-MOST_PAGES.false) is.few_levels
