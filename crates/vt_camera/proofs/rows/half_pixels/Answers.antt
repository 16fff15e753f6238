use Rattle.std.proofs.Common.{ℤ, pos, negsuc, ◌<◌, sym, subst, arith}
use Rattle.std.specs.Prelude.{◌≤ℤ◌}
use Rattle.vt_camera.proofs.Turns.{twice_fits, odd_fits, off_least, off_most, off_fits, off_value}
use Rattle.vt_camera.proofs.rows.half_pixels.Goals as goal

pub overflow_mul-result : goal.overflow_mul-result
overflow_mul-result c = let few : c.args.x < 2048 = omega (arith, c.requires.within, c.requires.width) in twice_fits c.from.result c.args.x c.from.ensures few

pub overflow_add-result : goal.overflow_add-result
overflow_add-result c = let few : c.args.x < 2048 = omega (arith, c.requires.within, c.requires.width) in odd_fits c.from.result c.args.x c.from.ensures few

pub overflow_sub-result : goal.overflow_sub-result
overflow_sub-result c = off_fits c.from.result c.from-2.result c.args.x c.args.width c.from.ensures c.from-2.ensures c.requires.within c.requires.width

pub returns-clause-value : goal.returns-clause-value
returns-clause-value c = off_value c.from.result c.from-2.result c.args.x c.args.width c.from.ensures c.from-2.ensures c.requires.within c.requires.width

pub returns-clause-low : goal.returns-clause-low
returns-clause-low c =
    subst (λ (z : ℤ). negsuc 2046 ≤ℤ z)
    (sym (off_value c.from.result c.from-2.result c.args.x c.args.width c.from.ensures c.from-2.ensures c.requires.within c.requires.width))
    (off_least c.args.x c.args.width c.requires.within c.requires.width)

pub returns-clause-high : goal.returns-clause-high
returns-clause-high c =
    subst (λ (z : ℤ). z ≤ℤ pos 2047)
    (sym (off_value c.from.result c.from-2.result c.args.x c.args.width c.from.ensures c.from-2.ensures c.requires.within c.requires.width))
    (off_most c.args.x c.args.width c.requires.within c.requires.width)
