use Rattle.std.proofs.Common.{◌≡◌, sym}
use Rattle.vt_draw.proofs.DrawnRows.{two_left}
use Rattle.vt_plain_bilinear.proofs.DrawnBlends.{blended_as, counted_as}
use Rattle.vt_plain_bilinear.proofs.rows.draw_row_blend.Goals as goal

pub returns-then-shot-eq1-clause-drawn : goal.returns-then-shot-eq1-clause-drawn
returns-then-shot-eq1-clause-drawn g c =
    let depth : 1 ≡ c.args.shot.now.depth = sym c.if-shot-eq1.true in
    blended_as c.args.shot.now.geometry.now 1 c.args.shot.now.depth (g.K.Lookup.version c.blend_pixels.new.lookup)
    (g.K.Lookup.says c.blend_pixels.new.lookup) c.row_of-row.result _ c.width-columns.result c.args.shot.now.path.now.width
    c.blend_pixels.new.out depth c.row_of-row.ensures.row c.width-columns.ensures.value c.blend_pixels.ensures.drawn

pub returns-then-shot-eq1-clause-counted : goal.returns-then-shot-eq1-clause-counted
returns-then-shot-eq1-clause-counted g c =
    counted_as c.args.shot.now.geometry.now c.row_of-row.result _ c.width-columns.result c.args.shot.now.path.now.width c.args.counts.now
    c.blend_pixels.new.counts c.row_of-row.ensures.row c.width-columns.ensures.value c.blend_pixels.ensures.counted

pub returns-else-shot-eq1-clause-drawn : goal.returns-else-shot-eq1-clause-drawn
returns-else-shot-eq1-clause-drawn g c =
    let depth : 2 ≡ c.args.shot.now.depth = two_left c.args.shot.now.depth c.requires.depth c.if-shot-eq1.false in
    blended_as c.args.shot.now.geometry.now 2 c.args.shot.now.depth (g.K.Lookup.version c.blend_pixels-else-shot-eq1.new.lookup)
    (g.K.Lookup.says c.blend_pixels-else-shot-eq1.new.lookup) c.row_of-row.result _ c.width-columns.result c.args.shot.now.path.now.width
    c.blend_pixels-else-shot-eq1.new.out depth c.row_of-row.ensures.row c.width-columns.ensures.value c.blend_pixels-else-shot-eq1.ensures.drawn

pub returns-else-shot-eq1-clause-counted : goal.returns-else-shot-eq1-clause-counted
returns-else-shot-eq1-clause-counted g c =
    counted_as c.args.shot.now.geometry.now c.row_of-row.result _ c.width-columns.result c.args.shot.now.path.now.width c.args.counts.now
    c.blend_pixels-else-shot-eq1.new.counts c.row_of-row.ensures.row c.width-columns.ensures.value c.blend_pixels-else-shot-eq1.ensures.counted
