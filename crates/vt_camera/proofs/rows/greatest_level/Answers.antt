use Rattle.std.proofs.Common.{◌<◌, ◌*◌, ◌^◌, sym, ◌∙◌, arith}
use Rattle.vt_camera.proofs.LevelLemmas.{lowest, by_logarithm, exponent_below}
use Rattle.vt_camera.proofs.rows.greatest_level.Goals as goal

pub returns-then-texels-eq0-clause-value : goal.returns-then-texels-eq0-clause-value
returns-then-texels-eq0-clause-value c = sym (lowest c.args.span c.args.last c.if-texels-eq0.true)

pub returns-else-texels-eq0-clause-value : goal.returns-else-texels-eq0-clause-value
returns-else-texels-eq0-clause-value c =
    c.min.ensures ∙ sym (by_logarithm c.args.span c.args.last c.ilog2.result c.ilog2.ensures.power_le c.ilog2.ensures.next_power_gt)

pub returns-else-texels-eq0-clause-few : goal.returns-else-texels-eq0-clause-few
returns-else-texels-eq0-clause-few c =
    let few : 2 ^ c.ilog2.result < 2 * 2 ^ 16 = omega (arith, c.ilog2.ensures.power_le) in
    omega (arith, exponent_below 16 c.ilog2.result few)
