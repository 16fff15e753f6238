use Rattle.std.proofs.Common.{ℤ, pos, negsuc, sym, subst}
use Rattle.std.specs.Prelude.{◌≤ℤ◌}
use Rattle.vt_camera.proofs.Shares.{far_value, far_low, far_high}
use Rattle.vt_camera.proofs.Products.{natural_fits, product_fits}
use Rattle.vt_camera.proofs.rows.far_off.Goals as goal

pub overflow_cast-result : goal.overflow_cast-result
overflow_cast-result c = natural_fits c.args.distance c.requires.distance

pub overflow_mul-result : goal.overflow_mul-result
overflow_mul-result c = product_fits c.args.distance c.args.direction c.requires.distance c.requires.direction_low c.requires.direction_high

pub returns-clause-value : goal.returns-clause-value
returns-clause-value c = far_value c.args.distance c.args.direction c.requires.distance c.requires.direction_low c.requires.direction_high

pub returns-clause-low : goal.returns-clause-low
returns-clause-low c =
    subst (λ (z : ℤ). negsuc 68719476735 ≤ℤ z)
    (sym (far_value c.args.distance c.args.direction c.requires.distance c.requires.direction_low c.requires.direction_high))
    (far_low c.args.distance c.args.direction c.requires.distance c.requires.direction_low c.requires.direction_high)

pub returns-clause-high : goal.returns-clause-high
returns-clause-high c =
    subst (λ (z : ℤ). z ≤ℤ pos 68719476736)
    (sym (far_value c.args.distance c.args.direction c.requires.distance c.requires.direction_low c.requires.direction_high))
    (far_high c.args.distance c.args.direction c.requires.distance c.requires.direction_low c.requires.direction_high)
