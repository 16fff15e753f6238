use Rattle.std.proofs.Common.{◌≤◌, pos, negsuc, ℤ, sym, subst, arith}
use Rattle.std.specs.Prelude.{◌≤ℤ◌}
use Rattle.vt_camera.proofs.Products.{natural_fits, product_fits, product_value, product_low, product_high}
use Rattle.vt_camera.proofs.rows.scaled.Goals as goal

few : (c : goal.Start) → c.args.span ≤ 68719476736
few c = omega (arith, c.requires.span)

pub overflow_cast-result : goal.overflow_cast-result
overflow_cast-result c = natural_fits c.args.span (few c)

pub overflow_mul-result : goal.overflow_mul-result
overflow_mul-result c = product_fits c.args.span c.args.direction (few c) c.requires.direction_low c.requires.direction_high

pub returns-clause-value : goal.returns-clause-value
returns-clause-value c = product_value c.args.span c.args.direction (few c) c.requires.direction_low c.requires.direction_high

pub returns-clause-low : goal.returns-clause-low
returns-clause-low c =
    subst (λ (z : ℤ). negsuc 274877906943 ≤ℤ z)
    (sym (product_value c.args.span c.args.direction (few c) c.requires.direction_low c.requires.direction_high))
    (product_low c.args.span c.args.direction c.requires.span c.requires.direction_low c.requires.direction_high)

pub returns-clause-high : goal.returns-clause-high
returns-clause-high c =
    subst (λ (z : ℤ). z ≤ℤ pos 274877906944)
    (sym (product_value c.args.span c.args.direction (few c) c.requires.direction_low c.requires.direction_high))
    (product_high c.args.span c.args.direction c.requires.span c.requires.direction_low c.requires.direction_high)
