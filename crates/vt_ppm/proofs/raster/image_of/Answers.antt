use Rattle.std.proofs.Common.{◌∙◌, ◌*◌, length, sym, ap, arith}
use Rattle.std.proofs.lemmas.List.{with_items_is}
use Rattle.vt_definitions.specs.Depths.{texel_length}
use Rattle.vt_ppm.specs.Format.{depth_of}
use Rattle.vt_ppm.proofs.Rasters.{raster_image}
use Rattle.vt_ppm.proofs.SampleValues.{samples_full}
use Rattle.vt_ppm.proofs.raster.image_of.Goals as goal

pub scale_in_parts-requires-clause-full : goal.scale_in_parts-requires-clause-full
scale_in_parts-requires-clause-full g c lives within =
    let h = c.args.header.now in
    samples_full (depth_of h.maximum) (h.width * h.height) _ c.sample_count.result (ap length c.as_mut_slice.ensures.value ∙ c.requires.full)
    c.sample_count.ensures.value

pub returns : goal.returns
returns g c =
    let h = c.args.header.now in
    raster_image h.width h.height h.maximum c.args.raster.items c.as_mut_slice.result.now c.scale_in_parts.new.raster _ c.sample_count.result c.depth_of.result
    c.new.result c.as_mut_slice.ensures.value c.as_mut_slice.ensures.len c.scale_in_parts.auto.raster c.sample_count.ensures.value c.depth_of.ensures.value
    c.requires.few c.scale_in_parts.ensures.scaled c.scale_in_parts.ensures.bytes c.new.ensures

pub new-requires : goal.new-requires
new-requires g c =
    let h = c.args.header.now in
    let made = with_items_is c.args.raster c.scale_in_parts.new.raster (c.scale_in_parts.auto.raster ∙ c.as_mut_slice.ensures.len) in
    record {
      depth = c.depth_of.ensures.depth;
      some_columns = c.requires.sides.some_columns;
      few_columns = omega (arith, c.requires.sides.few_columns);
      some_rows = c.requires.sides.some_rows;
      few_rows = omega (arith, c.requires.sides.few_rows);
      full = ap length made ∙ c.scale_in_parts.auto.raster ∙ ap length c.as_mut_slice.ensures.value ∙ c.requires.full
          ∙ ap (λ d. texel_length d * (h.width * h.height)) (sym c.depth_of.ensures.value);
    }
