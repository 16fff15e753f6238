use Rattle.vt_box_filter.proofs.PutBoxes.{next_column}
use Rattle.std.proofs.Common.{ℕ, ◌+◌, ◌*◌, ◌/◌, ◌<◌, ◌≤◌, arith}
use Rattle.std.proofs.Math.Nat.{mul-le-mul_left}
use Rattle.vt_box_filter.proofs.rows.halve_pairs.Goals as goal

-- a pair of columns is inside a row
pair_inside : (d w x : ℕ) → x < w / 2 → 3 * d * (2 * (x + 1)) ≤ 3 * d * w
pair_inside d w x inside = mul-le-mul_left (3 * d) (omega arith)

-- and its half inside the halved row
half_inside : (d w x : ℕ) → x < w / 2 → 3 * d * (x + 1) ≤ 3 * d * ((w + 1) / 2)
half_inside d w x inside = mul-le-mul_left (3 * d) (omega arith)

pub put_boxes-requires-clause-first_top : goal.put_boxes-requires-clause-first_top
put_boxes-requires-clause-first_top g c =
    omega (arith, pair_inside g.row.DEPTH c.args.width c.loop-x.x c.loop-x-test.true, c.requires.top)

pub put_boxes-requires-clause-second_top : goal.put_boxes-requires-clause-second_top
put_boxes-requires-clause-second_top g c =
    omega (arith, pair_inside g.row.DEPTH c.args.width c.loop-x.x c.loop-x-test.true, c.requires.top)

pub put_boxes-requires-clause-first_bottom : goal.put_boxes-requires-clause-first_bottom
put_boxes-requires-clause-first_bottom g c =
    omega (arith, pair_inside g.row.DEPTH c.args.width c.loop-x.x c.loop-x-test.true, c.requires.bottom)

pub put_boxes-requires-clause-second_bottom : goal.put_boxes-requires-clause-second_bottom
put_boxes-requires-clause-second_bottom g c =
    omega (arith, pair_inside g.row.DEPTH c.args.width c.loop-x.x c.loop-x-test.true, c.requires.bottom)

pub put_boxes-requires-clause-room : goal.put_boxes-requires-clause-room
put_boxes-requires-clause-room g c =
    omega (arith, half_inside g.row.DEPTH c.args.width c.loop-x.x c.loop-x-test.true, c.loop-x.auto.out, c.requires.out)

pub loop-x-init : goal.loop-x-init
loop-x-init g c = c.requires.blocks

pub loop-x-preserved : goal.loop-x-preserved
loop-x-preserved g c =
    next_column g.row.DEPTH c.args.top.now c.args.bottom.now c.loop-x.out c.put_boxes.new.out c.args.width c.loop-x.x c.loop-x-test.true
    c.put_boxes.ensures.written c.put_boxes.ensures.kept c.loop-x.invariant

pub put_boxes-requires-clause-depth : goal.put_boxes-requires-clause-depth
put_boxes-requires-clause-depth g c = c.requires.depth
