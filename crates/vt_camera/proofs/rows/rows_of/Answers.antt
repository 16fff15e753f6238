use Rattle.std.proofs.Common.{ℤ, pos, ◌*ℤ◌, ap, ◌∙◌}
use Rattle.vt_camera.proofs.Bits.{at_least, at_most, place_bits, direction_bits, across_bits, middle_bits, finer_same, finer_low, finer_high}
use Rattle.vt_camera.proofs.Ground.{same_axis, same_middle}
use Rattle.vt_camera.proofs.rows.rows_of.Goals as goal

pub middle-requires-clause-place_low : goal.middle-requires-clause-place_low
middle-requires-clause-place_low c = at_least _ _ (place_bits _ c.requires.limits.v_low c.requires.limits.v_high) c.requires.limits.v_low

pub middle-requires-clause-place_high : goal.middle-requires-clause-place_high
middle-requires-clause-place_high c = at_most _ _ (place_bits _ c.requires.limits.v_low c.requires.limits.v_high) c.requires.limits.v_high

pub middle-requires-clause-distance : goal.middle-requires-clause-distance
middle-requires-clause-distance c = c.requires.distance

pub middle-requires-clause-direction_low : goal.middle-requires-clause-direction_low
middle-requires-clause-direction_low c = at_least _ _ (direction_bits _ c.requires.limits.s_low c.requires.limits.s_high) c.requires.limits.s_low

pub middle-requires-clause-direction_high : goal.middle-requires-clause-direction_high
middle-requires-clause-direction_high c = at_most _ _ (direction_bits _ c.requires.limits.s_low c.requires.limits.s_high) c.requires.limits.s_high

pub middle-requires-clause-side_low : goal.middle-requires-clause-side_low
middle-requires-clause-side_low c = c.requires.side_low

pub middle-requires-clause-side_high : goal.middle-requires-clause-side_high
middle-requires-clause-side_high c = c.requires.side_high

pub finer-middle-requires-clause-low : goal.finer-middle-requires-clause-low
finer-middle-requires-clause-low c = at_least _ _ (middle_bits _ c.middle.ensures.low c.middle.ensures.high) c.middle.ensures.low

pub finer-middle-requires-clause-high : goal.finer-middle-requires-clause-high
finer-middle-requires-clause-high c = at_most _ _ (middle_bits _ c.middle.ensures.low c.middle.ensures.high) c.middle.ensures.high

pub scaled-requires-clause-span : goal.scaled-requires-clause-span
scaled-requires-clause-span c = c.requires.span

pub scaled-requires-clause-direction_low : goal.scaled-requires-clause-direction_low
scaled-requires-clause-direction_low c = at_least _ _ (direction_bits _ c.requires.limits.c_low c.requires.limits.c_high) c.requires.limits.c_low

pub scaled-requires-clause-direction_high : goal.scaled-requires-clause-direction_high
scaled-requires-clause-direction_high c = at_most _ _ (direction_bits _ c.requires.limits.c_low c.requires.limits.c_high) c.requires.limits.c_high

pub of-requires-clause-across_low : goal.of-requires-clause-across_low
of-requires-clause-across_low c = at_least _ _ (across_bits _ c.scaled.ensures.low c.scaled.ensures.high) c.scaled.ensures.low

pub of-requires-clause-across_high : goal.of-requires-clause-across_high
of-requires-clause-across_high c = at_most _ _ (across_bits _ c.scaled.ensures.low c.scaled.ensures.high) c.scaled.ensures.high

pub of-requires-clause-side_low : goal.of-requires-clause-side_low
of-requires-clause-side_low c = c.requires.side_low

pub of-requires-clause-side_high : goal.of-requires-clause-side_high
of-requires-clause-side_high c = c.requires.side_high

pub of-requires-clause-level : goal.of-requires-clause-level
of-requires-clause-level c = c.requires.level

pub of-requires-clause-middle_low : goal.of-requires-clause-middle_low
of-requires-clause-middle_low c = finer_low _ c.finer-middle.ensures.low c.finer-middle.ensures.high

pub of-requires-clause-middle_high : goal.of-requires-clause-middle_high
of-requires-clause-middle_high c = finer_high _ c.finer-middle.ensures.low c.finer-middle.ensures.high

pub returns : goal.returns
returns c =
    same_axis _ _ _ _ _ _ c.of.result
    (finer_same _ c.finer-middle.ensures.low c.finer-middle.ensures.high ∙ c.finer-middle.ensures.value ∙ ap (λ (z : ℤ). z *ℤ pos 32768) ((middle_bits _ c.middle.ensures.low c.middle.ensures.high) ∙ same_middle _ _ _ _ c.middle.result c.args.distance c.args.side c.middle.ensures.value (place_bits _ c.requires.limits.v_low c.requires.limits.v_high) (direction_bits _ c.requires.limits.s_low c.requires.limits.s_high)))
    ((across_bits _ c.scaled.ensures.low c.scaled.ensures.high) ∙ c.scaled.ensures.value ∙ ap (λ (z : ℤ). pos c.args.span *ℤ z) (direction_bits _ c.requires.limits.c_low c.requires.limits.c_high))
    c.of.ensures
