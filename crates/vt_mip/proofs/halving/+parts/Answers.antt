use Rattle.std.proofs.Common.{ℕ, ◌+◌, ◌-◌, ◌*◌, ◌/◌, length, refl, ap, ◌∙◌, arith}
use Rattle.vt_mip.proofs.RasterParts.{upper_sizes, lower_sizes, in_parts, both_halved}
use Rattle.vt_mip.proofs.halving.+parts.Goals as goal

pub halve_in_parts-halve_both-requires-clause-front : goal.halve_in_parts-halve_both-requires-clause-front
halve_in_parts-halve_both-requires-clause-front g t c κs within =
    let low = c.low_rows-low.result in
    upper_sizes c.args.depth c.args.width c.args.height (2 * low) low (length c.args.source.now) (length c.args.out.now) _ _ c.requires refl
    (omega (arith, c.if-low-eq0.false)) c.low_rows-low.ensures
    (c.split_at.ensures.front_len ∙ ap (λ (n : ℕ). n * (c.args.width * (2 * low))) c.texel_length.ensures.value)
    (c.split_at_mut-front.ensures.front_len ∙ ap (λ (n : ℕ). n * ((c.args.width + 1) / 2 * low)) c.texel_length-2.ensures.value)

pub halve_in_parts-halve_both-requires-clause-back : goal.halve_in_parts-halve_both-requires-clause-back
halve_in_parts-halve_both-requires-clause-back g t c κs within =
    let low = c.low_rows-low.result in
    lower_sizes c.args.depth c.args.width c.args.height (2 * low) low (length c.args.source.now) (length c.args.out.now) _ _ _ _ c.requires refl c.low_rows-low.ensures
    (ap (λ (n : ℕ). n * (c.args.width * (2 * low))) c.texel_length.ensures.value)
    (ap (λ (n : ℕ). n * ((c.args.width + 1) / 2 * low)) c.texel_length-2.ensures.value)
    c.split_at.ensures.back_len c.split_at_mut-front.ensures.back_len

pub halve_in_parts-returns : goal.halve_in_parts-returns
halve_in_parts-returns g t c =
    let low = c.low_rows-low.result in
    let cut = c.split_at.ensures in
    let sizes = upper_sizes c.args.depth c.args.width c.args.height (2 * low) low (length c.args.source.now) (length c.args.out.now) _ _ c.requires refl
    (omega (arith, c.if-low-eq0.false)) c.low_rows-low.ensures
    (cut.front_len ∙ ap (λ (n : ℕ). n * (c.args.width * (2 * low))) c.texel_length.ensures.value)
    (c.split_at_mut-front.ensures.front_len ∙ ap (λ (n : ℕ). n * ((c.args.width + 1) / 2 * low)) c.texel_length-2.ensures.value) in
    both_halved c.args.depth c.args.width c.args.height (2 * low) low (c.args.height - 2 * low) c.args.source.now c.split_at.result.0.now
    c.split_at.result.1.now c.halve_both.new.front c.halve_both.new.back c.requires.some_columns (omega (arith, c.low_rows-low.ensures)) refl refl
    c.low_rows-low.ensures (in_parts _ c.args.source.now c.split_at.result.0.now c.split_at.result.1.now cut.front cut.back)
    sizes.source (c.halve_both.auto.front ∙ sizes.out) c.halve_both.ensures.front c.halve_both.ensures.back
