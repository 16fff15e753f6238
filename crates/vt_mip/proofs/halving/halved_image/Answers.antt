use Rattle.std.proofs.Common.{◌*◌, ◌+◌, ◌/◌, length, sym, ap, ◌∙◌, subst, arith}
use Rattle.std.proofs.lemmas.List.{with_items_is}
use Rattle.vt_ppm.specs.Depths.{IsDepth}
use Rattle.vt_mip.proofs.InPlace.{half_made}
use Rattle.vt_mip.proofs.halving.halved_image.Goals as goal

pub new-requires : goal.new-requires
new-requires g c =
    let of = c.depth-depth.ensures.limits in
    let made = with_items_is c.in_ok-samples.samples c.halve_in_parts.new.out (c.halve_in_parts.auto.out ∙ c.deref_mut.ensures.len) in
    record {
      depth = subst IsDepth (sym c.depth-depth.ensures.value) of.depth;
      some_columns = omega (arith, of.some_columns, c.width-width.ensures.value);
      few_columns = omega (arith, of.few_columns, c.width-width.ensures.value);
      some_rows = omega (arith, of.some_rows, c.height-height.ensures.value);
      few_rows = omega (arith, of.few_rows, c.height-height.ensures.value);
      full = ap length made ∙ c.halve_in_parts.auto.out ∙ c.deref_mut.ensures.len ∙ c.in_ok-samples.ensures.len
          ∙ ap (λ n. n * ((c.width-width.result + 1) / 2 * ((c.height-height.result + 1) / 2))) c.texel_length.ensures.value;
    }

pub returns-clause-half : goal.returns-clause-half
returns-clause-half g c =
    half_made c.args.image.now c.new.result c.depth-depth.result c.width-width.result c.height-height.result c.samples.result.now
    c.halve_in_parts.new.out _ c.new.ensures
    (with_items_is c.in_ok-samples.samples c.halve_in_parts.new.out (c.halve_in_parts.auto.out ∙ c.deref_mut.ensures.len))
    c.depth-depth.ensures.value c.width-width.ensures.value c.height-height.ensures.value c.samples.ensures.value c.halve_in_parts.ensures
