use Rattle.std.proofs.Common.{◌≡◌, ℕ, ◌+◌, ◌-◌, ◌*◌, ◌<◌, ◌≤◌, take, refl, sym, ap, ◌∙◌, subst, arith}
use Rattle.std.proofs.Math.Nat.{mul-le-mul_left}
use Rattle.vt_mip.specs.Chains.{chain_levels, chain_width, chain_height, IsTexelRaster}
use Rattle.vt_plain.specs.Plain.{chain_of, levels_from}
use Rattle.vt_plain.proofs.Inside.{lines_small, texel_inside}
use Rattle.vt_plain.proofs.Drawn.{row_samples-none, pixel_drawn}
use Rattle.vt_plain.proofs.WantedLevels.{inside_level, levels_at}
use Rattle.vt_plain.proofs.plain.draw_plain_row.Goals as goal

pub loop-x-init : goal.loop-x-init
loop-x-init g c =
    ap (λ (n : ℕ). take n c.args.out.now) (let none : 3 * g.row.DEPTH * 0 ≡ 0 = omega arith in none)
    ∙ row_samples-none g.row.DEPTH (levels_from c.args.skipped (chain_of c.args.chain.now.base)) c.args.row

pub loop-x-preserved : goal.loop-x-preserved
loop-x-preserved g c =
    let chain = c.args.chain.now in
    let k = c.level-wanted.result in
    let level = k - c.args.skipped in
    let place = c.texel_in_level-column in
    let width = c.size-width.result.0 in
    let source = levels_from c.args.skipped (chain_of chain.base) in
    let P : ℕ → (ℕ → ℕ → ℕ) → Type 0 = λ d words. IsTexelRaster d words (chain_width chain level) (chain_height chain level) c.samples-texels.result.now in
    let raster : P g.row.DEPTH (source k) =
    subst (λ (words : ℕ → ℕ → ℕ). P g.row.DEPTH words) (sym (levels_at c.args.skipped (chain_of chain.base) k))
    (subst (λ (d : ℕ). P d (chain_of chain.base level)) c.requires.own c.samples-texels.ensures) in
    pixel_drawn g.row.DEPTH source c.args.row c.loop-x.x k place.result.0 place.result.1
    (chain_width chain level) (chain_height chain level) (place.result.1 * width + place.result.0) width
    c.samples-texels.result.now c.loop-x.out c.put_texel.new.out raster
    c.level-wanted.ensures.value place.ensures.column place.ensures.row
    (inside_level (chain_width c.args.chain.now) c.args.skipped c.level-wanted.result _ c.texel_in_level-column.result.0 _ c.texel_in_level-column.ensures.column_within c.requires.columns c.level-wanted.ensures.value)
    (inside_level (chain_height c.args.chain.now) c.args.skipped c.level-wanted.result _ c.texel_in_level-column.result.1 _ c.texel_in_level-column.ensures.row_within c.requires.rows c.level-wanted.ensures.value) c.size-width.ensures.width
    refl c.loop-x.invariant c.put_texel.ensures

pub samples-texels-requires : goal.samples-texels-requires
samples-texels-requires g c =
    subst (λ (n : ℕ). n - c.args.skipped < chain_levels c.args.chain.now) (sym c.level-wanted.ensures.value) c.requires.there

pub size-width-requires : goal.size-width-requires
size-width-requires g c =
    subst (λ (n : ℕ). n - c.args.skipped < chain_levels c.args.chain.now) (sym c.level-wanted.ensures.value) c.requires.there

pub put_texel-requires-clause-depth : goal.put_texel-requires-clause-depth
put_texel-requires-clause-depth g c = c.requires.depth

pub put_texel-requires-clause-to : goal.put_texel-requires-clause-to
put_texel-requires-clause-to g c =
    let d = g.row.DEPTH in
    let room : 3 * d * (c.loop-x.x + 1) ≤ 3 * d * c.args.columns = mul-le-mul_left (3 * d) (omega arith) in
    omega (arith, room, c.loop-x.auto.out, c.requires.room)

pub overflow_mul-texel : goal.overflow_mul-texel
overflow_mul-texel g c =
    omega (
      arith,
      lines_small c.texel_in_level-column.result.1 c.size-width.result.1 c.size-width.result.0
          (omega (arith, inside_level (chain_height c.args.chain.now) c.args.skipped c.level-wanted.result _ c.texel_in_level-column.result.1 _ c.texel_in_level-column.ensures.row_within c.requires.rows c.level-wanted.ensures.value, c.size-width.ensures.height)) c.size-width.ensures.few_rows c.size-width.ensures.few_columns,
    )

pub overflow_add-texel : goal.overflow_add-texel
overflow_add-texel g c =
    omega (
      arith,
      inside_level (chain_width c.args.chain.now) c.args.skipped c.level-wanted.result _ c.texel_in_level-column.result.0 _ c.texel_in_level-column.ensures.column_within c.requires.columns c.level-wanted.ensures.value,
      c.size-width.ensures.width,
      c.size-width.ensures.few_columns,
      lines_small c.texel_in_level-column.result.1 c.size-width.result.1 c.size-width.result.0
          (omega (arith, inside_level (chain_height c.args.chain.now) c.args.skipped c.level-wanted.result _ c.texel_in_level-column.result.1 _ c.texel_in_level-column.ensures.row_within c.requires.rows c.level-wanted.ensures.value, c.size-width.ensures.height)) c.size-width.ensures.few_rows c.size-width.ensures.few_columns,
    )

pub put_texel-requires-clause-from : goal.put_texel-requires-clause-from
put_texel-requires-clause-from g c =
    let chain = c.args.chain.now in
    let level = c.level-wanted.result - c.args.skipped in
    texel_inside g.row.DEPTH chain.base.depth (chain_width chain level) (chain_height chain level) c.size-width.result.0
    c.texel_in_level-column.result.1 c.texel_in_level-column.result.0 _ c.requires.own c.size-width.ensures.width
    (inside_level (chain_width c.args.chain.now) c.args.skipped c.level-wanted.result _ c.texel_in_level-column.result.0 _ c.texel_in_level-column.ensures.column_within c.requires.columns c.level-wanted.ensures.value)
    (inside_level (chain_height c.args.chain.now) c.args.skipped c.level-wanted.result _ c.texel_in_level-column.result.1 _ c.texel_in_level-column.ensures.row_within c.requires.rows c.level-wanted.ensures.value)
    c.samples-texels.ensures.full
