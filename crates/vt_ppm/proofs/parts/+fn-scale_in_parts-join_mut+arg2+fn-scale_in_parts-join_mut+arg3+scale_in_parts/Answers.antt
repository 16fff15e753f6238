use Rattle.std.proofs.Common.{◌≡◌, ℕ, ◌-◌, ◌*◌, length, ap, ◌∙◌, arith, rules}
use Rattle.vt_ppm.specs.Format.{depth_of}
use Rattle.vt_ppm.specs.Samples.{AreScaledUpTo}
use Rattle.vt_ppm.proofs.SampleParts.{parts_scaled}
use Rattle.vt_ppm.proofs.SampleValues.{are_bytes}
use Rattle.vt_ppm.proofs.parts.+fn-scale_in_parts-join_mut+arg2+fn-scale_in_parts-join_mut+arg3+scale_in_parts.Goals as goal

pub returns-clause-scaled : goal.returns-clause-scaled
returns-clause-scaled g t c =
    let m = c.args.maximum in
    let n = c.share-low.result in
    let k = c.args.count - c.share-low.result in
    let a = c.split_at_mut-front.result.0.now in
    let b = c.split_at_mut-front.result.1.now in
    let low : AreScaledUpTo (depth_of m) m n a c.front-1.given.0 = search rules in
    let high : AreScaledUpTo (depth_of m) m k b c.back-1.given.0 = search rules in
    let same : length c.front-1.given.0 ≡ length a = search rules in
    let full : length a ≡ depth_of m * n = c.split_at_mut-front.ensures.front_len ∙ ap (λ (d : ℕ). d * n) c.depth_of.ensures.value in
    parts_scaled (depth_of m) m n k c.args.count c.args.raster.now a b full c.split_at_mut-front.ensures.value (omega (arith, c.share-low.ensures))
    c.front-1.given.0 c.back-1.given.0 same low high

pub returns-clause-bytes : goal.returns-clause-bytes
returns-clause-bytes g t c = are_bytes _ c.type_inv.raster
