use Rattle.std.proofs.Common.{pos, ap, ◌∙◌, arith}
use Rattle.vt_camera.proofs.Turns.{turns_same, turns_low, turns_high, turn_fits, turn_bits, turn_low, turn_high}
use Rattle.vt_camera.proofs.rows.turns.Goals as goal

pub overflow_mul-result-2 : goal.overflow_mul-result-2
overflow_mul-result-2 c =
    omega (arith, turns_high c.from.result c.from-2.result c.args.side c.from.ensures c.from-2.ensures c.requires.side_low c.requires.side_high)

pub overflow_cast-result : goal.overflow_cast-result
overflow_cast-result c =
    turn_fits _ (turns_high c.from.result c.from-2.result c.args.side c.from.ensures c.from-2.ensures c.requires.side_low c.requires.side_high)

pub returns-clause-value : goal.returns-clause-value
returns-clause-value c =
    turn_bits _ (turns_high c.from.result c.from-2.result c.args.side c.from.ensures c.from-2.ensures c.requires.side_low c.requires.side_high)
    ∙ ap pos (turns_same c.from.result c.from-2.result c.args.side c.from.ensures c.from-2.ensures)

pub returns-clause-low : goal.returns-clause-low
returns-clause-low c =
    turn_low _ (turns_low c.from.result c.from-2.result c.args.side c.from.ensures c.from-2.ensures c.requires.side_low c.requires.side_high)
    (turns_high c.from.result c.from-2.result c.args.side c.from.ensures c.from-2.ensures c.requires.side_low c.requires.side_high)

pub returns-clause-high : goal.returns-clause-high
returns-clause-high c =
    turn_high _ (turns_high c.from.result c.from-2.result c.args.side c.from.ensures c.from-2.ensures c.requires.side_low c.requires.side_high)
