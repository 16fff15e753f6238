use Rattle.std.proofs.Common.{◌≡◌, subst, arith}
use Rattle.vt_mip.specs.InPlace.{IsShrunk}
use Rattle.vt_mip.proofs.shrinking.halve_pairs.Goals as goal

pub loop-pair-preserved : goal.loop-pair-preserved
loop-pair-preserved c = λ source before. c.halve_pair.ensures source (c.loop-pair.invariant source before)

pub returns : goal.returns
returns c = λ source before.
    let all : c.loop-pair.pair ≡ c.args.end = omega (arith, c.loop-pair-test.false, c.loop-pair.auto.pair-end, c.requires.order) in
    subst (λ n. IsShrunk c.args.sizes.depth source c.args.sizes.width c.args.sizes.height n c.loop-pair.samples) all
    (c.loop-pair.invariant source before)
