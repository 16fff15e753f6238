use Rattle.std.proofs.Common.{◌≡◌, ℤ, pos, ◌-ℤ◌, ◌*ℤ◌, ◌≤ℤ◌, to_z, of_z, to_z-of_z, ap, ◌∙◌, subst, arith}
use Rattle.std.specs.Int.{w64}
use Rattle.std.proofs.lemmas.Int.{ints}
use Rattle.vt_camera.specs.Rows.{floor_div}
use Rattle.vt_camera.proofs.Bits.{at_least, at_most}
use Rattle.vt_camera.proofs.rows.place_before.Goals as goal

pub away-requires-clause-off_low : goal.away-requires-clause-off_low
away-requires-clause-off_low c = at_least _ _ (to_z-of_z c.ranges.off) c.requires.off_low

pub away-requires-clause-off_high : goal.away-requires-clause-off_high
away-requires-clause-off_high c = at_most _ _ (to_z-of_z c.ranges.off) c.requires.off_high

pub away-requires-clause-across_low : goal.away-requires-clause-across_low
away-requires-clause-across_low c = at_least _ _ (to_z-of_z c.ranges.across) c.requires.across_low

pub away-requires-clause-across_high : goal.away-requires-clause-across_high
away-requires-clause-across_high c = at_most _ _ (to_z-of_z c.ranges.across) c.requires.across_high

away_is : (c : goal.After-whole_places) → c.away.result ≡ c.args.off *ℤ c.args.across
away_is c =
    c.away.ensures.value ∙ ap (λ (z : ℤ). z *ℤ to_z w64 (of_z w64 c.args.across)) (to_z-of_z c.ranges.off)
    ∙ ap (λ (z : ℤ). c.args.off *ℤ z) (to_z-of_z c.ranges.across)

pub returns-clause-value : goal.returns-clause-value
returns-clause-value c =
    let place : to_z w64 (of_z w64 (to_z w64 (of_z w64 c.args.middle) -ℤ to_z w64 (of_z w64 c.away.result))) ≡ c.args.middle -ℤ c.away.result = omega (arith, ints) in
    c.whole_places.ensures.value
    ∙ ap (λ (z : ℤ). floor_div z 32768) place
    ∙ ap (λ (z : ℤ). floor_div (c.args.middle -ℤ z) 32768) (away_is c)

pub returns-clause-positive : goal.returns-clause-positive
returns-clause-positive c =
    let low : pos 0 ≤ℤ (c.args.middle -ℤ c.away.result) = omega (arith, ints) in
    subst (λ (z : ℤ). pos 0 ≤ℤ (c.args.middle -ℤ z)) (away_is c) low
