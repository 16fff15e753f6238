use Rattle.std.proofs.Common.{◌≡◌, ◌+◌, ◌*◌, ◌∙◌, ap, sym, ℕ, arith}
use Rattle.vt_ppm.specs.Depths.{texel_length}
use Rattle.vt_ppm.specs.Sides.{side}
use Rattle.vt_ppm.specs.declared.header.Header.{Header}
use Rattle.vt_mip.proofs.StripRoom.{room_none, room_next, room_few}
use Rattle.vt_mip.proofs.strip_chain.room_length.Goals as goal

pub loop-finer-init : goal.loop-finer-init
loop-finer-init g c = record { value = sym (room_none c.args.reader.now.header); few = omega arith }

pub loop-finer-preserved : goal.loop-finer-preserved
loop-finer-preserved g c = record {
  value = ap (λ (n : ℕ). n + 2 * (c.texel_length-size.result * c.side_at.result)) c.loop-finer.invariant.value
      ∙ room_next c.args.reader.now.header c.loop-finer.finer c.texel_length-size.result c.side_at.result
      (c.texel_length-size.ensures.value ∙ ap texel_length c.depth.ensures.value)
      (c.side_at.ensures.value ∙ ap (λ (h : Header). side h.width c.loop-finer.finer) c.header.ensures.value);
  few = room_few c.loop-finer.room c.texel_length-size.result c.side_at.result c.loop-finer.finer c.loop-finer.invariant.few
      (omega (arith, c.texel_length-size.ensures.few)) (let wide : c.header.result.now.width ≡ c.args.reader.now.header.width = ap
      (λ (h : Header). h.width) c.header.ensures.value in
      omega (arith, c.side_at.ensures.few, c.header.ensures.limits.sides.few_columns, wide));
}
