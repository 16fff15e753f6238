use Rattle.std.proofs.Common.{◌+◌, length, arith}
use Rattle.vt_plain.specs.Parts.{rows_until}
use Rattle.vt_plain.proofs.PartsDrawn.{both_drawn, upper_room, lower_room}
use Rattle.vt_plain.proofs.parts.+parts.Goals as goal

pub draw_in_parts-draw_both-requires-clause-front : goal.draw_in_parts-draw_both-requires-clause-front
draw_in_parts-draw_both-requires-clause-front g t c κs within =
    let first = c.args.first in
    let middle = c.args.first + c.share.result in
    upper_room (g.R.Rows.fits c.args.rows.now) c.args.size first middle c.args.end (length c.args.out.now) c.requires (omega arith)
    (omega (arith, c.share.ensures, c.requires.order)) _ c.split_at_mut-front.ensures.front_len

pub draw_in_parts-draw_both-requires-clause-back : goal.draw_in_parts-draw_both-requires-clause-back
draw_in_parts-draw_both-requires-clause-back g t c κs within =
    let first = c.args.first in
    let middle = c.args.first + c.share.result in
    lower_room (g.R.Rows.fits c.args.rows.now) c.args.size first middle c.args.end (length c.args.out.now) c.requires (omega arith)
    (omega (arith, c.share.ensures, c.requires.order)) _ _ c.split_at_mut-front.ensures.front_len
    (let whole = c.split_at_mut-front.ensures.back_len in omega (arith, whole, c.split_at_mut-front.ensures.front_len))

pub draw_in_parts-returns : goal.draw_in_parts-returns
draw_in_parts-returns g t c =
    let bytes = g.R.Rows.bytes c.args.rows.now in
    both_drawn (rows_until bytes c.args.first) (rows_until bytes (c.args.first + c.share.result)) (rows_until bytes c.args.end)
    c.draw_both.new.front c.draw_both.new.back c.draw_both.ensures.front c.draw_both.ensures.back
