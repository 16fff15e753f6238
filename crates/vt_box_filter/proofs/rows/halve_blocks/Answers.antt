use Rattle.std.proofs.Common.{◌≡◌, ℕ, ◌+◌, ◌-◌, ◌*◌, ◌≤◌, length, ap, ◌∙◌, arith}
use Rattle.vt_box_filter.proofs.BlockRows.{half_room, next_block}
use Rattle.vt_box_filter.proofs.rows.halve_blocks.Goals as goal

pub loop-block-preserved : goal.loop-block-preserved
loop-block-preserved g c =
    let d = g.row.DEPTH in
    let w = c.args.width in
    let n = c.loop-block.block in
    let r = c.texel_length-size.result in
    let s = c.texel_length.result in
    let e : r ≡ 3 * d = c.texel_length-size.ensures.value in
    let f : s ≡ 3 * d = c.texel_length.ensures.value in
    let cut : r * 32 * n + r * 32 - r * 32 * n ≡ d * 96 = omega (arith, e) in
    let fits : s * 16 * n ≤ length c.loop-block.out = half_room d w n (s * 16) (length c.loop-block.out) (omega arith) (omega (arith, f)) (omega arith) in
    next_block d c.args.top.now c.args.bottom.now c.loop-block.out c.halve_block.new.out w n (r * 32 * n)
    (r * 32 * n + r * 32 - r * 32 * n) (r * 32 * n + r * 32 - r * 32 * n) (s * 16 * n) _ (omega arith)
    (ap (λ (q : ℕ). q * 32 * n) e ∙ omega arith) (ap (λ (q : ℕ). q * 16 * n) f ∙ omega arith) fits (omega (arith, f)) cut cut
    c.loop-block.invariant c.halve_block.ensures
