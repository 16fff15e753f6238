use Rattle.std.proofs.Common.{arith}
use Rattle.vt_draw.specs.Shots.{shot_row}
use Rattle.vt_pictures.proofs.NearestNotes.{row_by_notes}
use Rattle.vt_pictures.proofs.nearest.NearestFilter.draw_row.Goals as goal

pub draw_row-requires-clause-room : goal.draw_row-requires-clause-room
draw_row-requires-clause-room g c p below = omega (arith, c.requires.room p below)

pub returns-clause-drawn : goal.returns-clause-drawn
returns-clause-drawn g c =
    row_by_notes c.args.shot.now.geometry.now c.args.shot.now.depth (g.K.Lookup.version c.draw_row.new.lookup)
    (g.K.Lookup.says c.draw_row.new.lookup)
    (shot_row c.args.shot.now.geometry.now c.args.shot.now.path.now c.args.shot.now.picture c.args.y) c.args.shot.now.path.now.width
    c.draw_row.new.out c.draw_row.ensures.drawn
