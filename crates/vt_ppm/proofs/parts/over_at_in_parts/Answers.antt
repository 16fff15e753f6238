use Rattle.std.proofs.Common.{◌*◌, rules}
use Rattle.vt_ppm.specs.Format.{depth_of}
use Rattle.vt_ppm.proofs.SampleValues.{samples_full}
use Rattle.vt_ppm.proofs.parts.over_at_in_parts.Goals as goal

pub first_over_in_parts-requires : goal.first_over_in_parts-requires
first_over_in_parts-requires g c =
    let h = c.args.header.now in
    (search rules, samples_full (depth_of h.maximum) (h.width * h.height) _ c.sample_count.result c.requires.full c.sample_count.ensures.value)
