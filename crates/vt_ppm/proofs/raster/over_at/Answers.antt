use Rattle.std.proofs.Common.{◌*◌}
use Rattle.vt_ppm.specs.Format.{depth_of}
use Rattle.vt_ppm.proofs.SampleValues.{samples_full}
use Rattle.vt_ppm.proofs.raster.over_at.Goals as goal

pub first_over-requires : goal.first_over-requires
first_over-requires c =
    let h = c.args.header.now in
    record { full = samples_full (depth_of h.maximum) (h.width * h.height) _ c.sample_count.result c.requires.full c.sample_count.ensures.value }
