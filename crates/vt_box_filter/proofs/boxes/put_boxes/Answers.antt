use Rattle.std.proofs.Common.{◌∙◌, arith}
use Rattle.vt_box_filter.proofs.PutBoxes.{three_boxes, none_before}
use Rattle.vt_box_filter.proofs.boxes.put_boxes.Goals as goal

pub returns-clause-written : goal.returns-clause-written
returns-clause-written g c =
    three_boxes g.row.DEPTH c.args.top.now c.args.bottom.now c.put_sample.new.bytes c.put_sample-2.new.bytes c.put_sample-3.new.bytes
    c.args.i c.args.j c.args.k (c.put_sample.ensures.written ∙ c.box_at.ensures.value) (c.put_sample-2.ensures.written ∙ c.box_at-2.ensures.value)
    (c.put_sample-3.ensures.written ∙ c.box_at-3.ensures.value) c.put_sample-2.ensures.kept c.put_sample-3.ensures.kept

pub returns-clause-kept : goal.returns-clause-kept
returns-clause-kept g c =
    none_before g.row.DEPTH c.args.out.now c.put_sample.new.bytes c.put_sample-2.new.bytes c.put_sample-3.new.bytes
    c.args.k c.put_sample.ensures.kept c.put_sample-2.ensures.kept c.put_sample-3.ensures.kept

pub box_at-requires-clause-depth : goal.box_at-requires-clause-depth
box_at-requires-clause-depth g c = c.requires.depth

pub put_sample-requires-clause-depth : goal.put_sample-requires-clause-depth
put_sample-requires-clause-depth g c = c.requires.depth

pub put_sample-requires-clause-few : goal.put_sample-requires-clause-few
put_sample-requires-clause-few g c = c.box_at.ensures.few

pub put_sample-requires-clause-room : goal.put_sample-requires-clause-room
put_sample-requires-clause-room g c = omega (arith, c.requires.room)

pub box_at-requires-clause-first_top : goal.box_at-requires-clause-first_top
box_at-requires-clause-first_top g c = omega (arith, c.requires.first_top)

pub box_at-requires-clause-second_top : goal.box_at-requires-clause-second_top
box_at-requires-clause-second_top g c = omega (arith, c.requires.second_top)

pub box_at-requires-clause-first_bottom : goal.box_at-requires-clause-first_bottom
box_at-requires-clause-first_bottom g c = omega (arith, c.requires.first_bottom)

pub box_at-requires-clause-second_bottom : goal.box_at-requires-clause-second_bottom
box_at-requires-clause-second_bottom g c = omega (arith, c.requires.second_bottom)

pub box_at-requires-2-clause-depth : goal.box_at-requires-2-clause-depth
box_at-requires-2-clause-depth g c = c.requires.depth

pub put_sample-requires-2-clause-depth : goal.put_sample-requires-2-clause-depth
put_sample-requires-2-clause-depth g c = c.requires.depth

pub put_sample-requires-2-clause-few : goal.put_sample-requires-2-clause-few
put_sample-requires-2-clause-few g c = c.box_at-2.ensures.few

pub put_sample-requires-2-clause-room : goal.put_sample-requires-2-clause-room
put_sample-requires-2-clause-room g c = omega (arith, c.requires.room)

pub box_at-requires-2-clause-first_top : goal.box_at-requires-2-clause-first_top
box_at-requires-2-clause-first_top g c = omega (arith, c.requires.first_top)

pub box_at-requires-2-clause-second_top : goal.box_at-requires-2-clause-second_top
box_at-requires-2-clause-second_top g c = omega (arith, c.requires.second_top)

pub box_at-requires-2-clause-first_bottom : goal.box_at-requires-2-clause-first_bottom
box_at-requires-2-clause-first_bottom g c = omega (arith, c.requires.first_bottom)

pub box_at-requires-2-clause-second_bottom : goal.box_at-requires-2-clause-second_bottom
box_at-requires-2-clause-second_bottom g c = omega (arith, c.requires.second_bottom)

pub box_at-requires-3-clause-depth : goal.box_at-requires-3-clause-depth
box_at-requires-3-clause-depth g c = c.requires.depth

pub put_sample-requires-3-clause-depth : goal.put_sample-requires-3-clause-depth
put_sample-requires-3-clause-depth g c = c.requires.depth

pub put_sample-requires-3-clause-few : goal.put_sample-requires-3-clause-few
put_sample-requires-3-clause-few g c = c.box_at-3.ensures.few

pub put_sample-requires-3-clause-room : goal.put_sample-requires-3-clause-room
put_sample-requires-3-clause-room g c = omega (arith, c.requires.room)

pub box_at-requires-3-clause-first_top : goal.box_at-requires-3-clause-first_top
box_at-requires-3-clause-first_top g c = omega (arith, c.requires.first_top)

pub box_at-requires-3-clause-second_top : goal.box_at-requires-3-clause-second_top
box_at-requires-3-clause-second_top g c = omega (arith, c.requires.second_top)

pub box_at-requires-3-clause-first_bottom : goal.box_at-requires-3-clause-first_bottom
box_at-requires-3-clause-first_bottom g c = omega (arith, c.requires.first_bottom)

pub box_at-requires-3-clause-second_bottom : goal.box_at-requires-3-clause-second_bottom
box_at-requires-3-clause-second_bottom g c = omega (arith, c.requires.second_bottom)
