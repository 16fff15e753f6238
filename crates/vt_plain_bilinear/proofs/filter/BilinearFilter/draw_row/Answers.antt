use Rattle.vt_draw.specs.Shots.{shot_row}
use Rattle.vt_plain_bilinear.proofs.Evidence.{row_by_notes}
use Rattle.vt_plain_bilinear.proofs.filter.BilinearFilter.draw_row.Goals as goal

pub returns-clause-drawn : goal.returns-clause-drawn
returns-clause-drawn g c =
    row_by_notes c.args.shot.now.geometry.now c.args.shot.now.depth (g.K.Lookup.version c.draw_row_blend.new.lookup)
    (g.K.Lookup.says c.draw_row_blend.new.lookup)
    (shot_row c.args.shot.now.geometry.now c.args.shot.now.path.now c.args.shot.now.picture c.args.y) c.args.shot.now.path.now.width
    c.draw_row_blend.new.out c.draw_row_blend.ensures.drawn
