use Rattle.std.proofs.Common.{ℤ, pos, negsuc, ◌+ℤ◌, ◌*ℤ◌, to_z-of_z, sym, ap, ◌∙◌, subst}
use Rattle.std.specs.Prelude.{◌≤ℤ◌}
use Rattle.vt_camera.specs.Rows.{floor_div}
use Rattle.vt_camera.proofs.Bits.{at_least, at_most, direction_bits}
use Rattle.vt_camera.proofs.Turns.{near_sum_fits, sum_low, sum_high, sum_fits, sum_same}
use Rattle.vt_camera.proofs.rows.middle.Goals as goal

pub far_off-requires-clause-direction_low : goal.far_off-requires-clause-direction_low
far_off-requires-clause-direction_low c =
    at_least (negsuc 16383) c.args.direction (direction_bits c.args.direction c.requires.direction_low c.requires.direction_high) c.requires.direction_low

pub far_off-requires-clause-direction_high : goal.far_off-requires-clause-direction_high
far_off-requires-clause-direction_high c =
    at_most (pos 16384) c.args.direction (direction_bits c.args.direction c.requires.direction_low c.requires.direction_high) c.requires.direction_high

pub overflow_add-result : goal.overflow_add-result
overflow_add-result c =
    near_sum_fits c.args.place c.far_off.result (record { low = c.requires.place_low; high = c.requires.place_high })
    (record { low = c.far_off.ensures.low; high = c.far_off.ensures.high })

pub overflow_add-result-2 : goal.overflow_add-result-2
overflow_add-result-2 c =
    sum_fits c.args.place c.far_off.result c.turns.result (record { low = c.requires.place_low; high = c.requires.place_high })
    (record { low = c.far_off.ensures.low; high = c.far_off.ensures.high })
    (record { low = c.turns.ensures.low; high = c.turns.ensures.high })

pub returns-clause-value : goal.returns-clause-value
returns-clause-value c =
    sum_same c.args.place c.far_off.result c.turns.result (record { low = c.requires.place_low; high = c.requires.place_high })
    (record { low = c.far_off.ensures.low; high = c.far_off.ensures.high })
    (record { low = c.turns.ensures.low; high = c.turns.ensures.high })
    ∙ ap (λ (far : ℤ). c.args.place +ℤ far +ℤ c.turns.result)
    (c.far_off.ensures.value ∙ ap (λ (z : ℤ). floor_div (pos c.args.distance *ℤ z) 16384) (to_z-of_z c.ranges.direction))
    ∙ ap (λ (turns : ℤ). c.args.place +ℤ floor_div (pos c.args.distance *ℤ c.args.direction) 16384 +ℤ turns) c.turns.ensures.value

pub returns-clause-low : goal.returns-clause-low
returns-clause-low c =
    subst (λ (z : ℤ). pos 137438953472 ≤ℤ z)
    (sym (sum_same c.args.place c.far_off.result c.turns.result (record { low = c.requires.place_low; high = c.requires.place_high })
    (record { low = c.far_off.ensures.low; high = c.far_off.ensures.high })
    (record { low = c.turns.ensures.low; high = c.turns.ensures.high })))
    (sum_low c.args.place c.far_off.result c.turns.result (record { low = c.requires.place_low; high = c.requires.place_high })
    (record { low = c.far_off.ensures.low; high = c.far_off.ensures.high })
    (record { low = c.turns.ensures.low; high = c.turns.ensures.high }))

pub returns-clause-high : goal.returns-clause-high
returns-clause-high c =
    subst (λ (z : ℤ). z ≤ℤ pos 412316860416)
    (sym (sum_same c.args.place c.far_off.result c.turns.result (record { low = c.requires.place_low; high = c.requires.place_high })
    (record { low = c.far_off.ensures.low; high = c.far_off.ensures.high })
    (record { low = c.turns.ensures.low; high = c.turns.ensures.high })))
    (sum_high c.args.place c.far_off.result c.turns.result (record { low = c.requires.place_low; high = c.requires.place_high })
    (record { low = c.far_off.ensures.low; high = c.far_off.ensures.high })
    (record { low = c.turns.ensures.low; high = c.turns.ensures.high }))
