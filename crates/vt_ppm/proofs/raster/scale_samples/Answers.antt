use Rattle.std.proofs.Common.{◌≡◌, ◌≤◌, ◌∙◌, subst, arith}
use Rattle.vt_ppm.specs.Format.{scaled}
use Rattle.vt_ppm.proofs.SampleValues.{scaled_more}
use Rattle.vt_ppm.proofs.raster.scale_samples.Goals as goal

pub loop-i-preserved : goal.loop-i-preserved
loop-i-preserved g c =
    let d = g.row.DEPTH in
    let l = c.loop-i in
    let kept = c.kept_by-kept in
    let e = c.from-sample.ensures ∙ c.sample_at.ensures.value in
    record {
      scaled = scaled_more d c.args.maximum l.i c.args.raster.now l.raster c.put_sample.new.bytes kept.result l.invariant.scaled l.invariant.rest
          c.put_sample.ensures.written c.put_sample.ensures.kept
          (subst (λ s. s ≤ c.args.maximum → kept.result ≡ scaled d c.args.maximum s) e kept.ensures.value);
      rest = λ k later. c.put_sample.ensures.kept k (λ e. absurd (omega (arith, e, later))) ∙ l.invariant.rest k (omega (arith, later));
    }
