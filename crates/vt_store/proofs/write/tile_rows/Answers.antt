use Rattle.std.proofs.Common.{ℕ, ◌+◌, ◌-◌, ◌*◌, refl, sym, ap, ◌∙◌, arith}
use Rattle.vt_definitions.specs.Depths.{texel_length}
use Rattle.vt_mip.specs.Chains.{chain_texel}
use Rattle.vt_pages.specs.declared.PageName.{PageName}
use Rattle.vt_store.proofs.Tiles.{level_inside}
use Rattle.vt_store.proofs.TileRows.{is_at, rows_small, rows_cut, rows_are}
use Rattle.vt_store.proofs.write.tile_rows.Goals as goal

pub size-width-requires : goal.size-width-requires
size-width-requires c = level_inside c.args.chain.now c.args.geometry.now c.page_at-name.result.level c.requires.shape
    c.page_at-name.ensures.in_chain.level_inside

pub samples-requires : goal.samples-requires
samples-requires c = level_inside c.args.chain.now c.args.geometry.now c.page_at-name.result.level c.requires.shape
    c.page_at-name.ensures.in_chain.level_inside

pub overflow_mul-from : goal.overflow_mul-from
overflow_mul-from c = omega (
  arith,
  rows_small c.texel_length.result c.size-width.result.0 c.rows_above.result c.size_inside-inside.result.1
      (omega (arith, c.texel_length.ensures.few)) (omega (arith, c.size-width.ensures.few_columns)) (omega (arith, c.rows_above.ensures.few))
      (omega (arith, c.size_inside-inside.ensures.few.1, c.page_at-name.ensures.limits.most_tile)),
)

pub overflow_add-result : goal.overflow_add-result
overflow_add-result c = omega (
  arith,
  rows_small c.texel_length.result c.size-width.result.0 c.rows_above.result c.size_inside-inside.result.1
      (omega (arith, c.texel_length.ensures.few)) (omega (arith, c.size-width.ensures.few_columns)) (omega (arith, c.rows_above.ensures.few))
      (omega (arith, c.size_inside-inside.ensures.few.1, c.page_at-name.ensures.limits.most_tile)),
)

pub slice_bounds-result-end : goal.slice_bounds-result-end
slice_bounds-result-end c =
    let s = c.args.geometry.now in
    let v = c.args.chain.now in
    let name = c.page_at-name.result in
    let z : ℕ = c.texel_length.result in
    let w : ℕ = c.size-width.result.0 in
    let at = is_at v s c.args.page name c.requires.shape c.page_at-name.ensures.name in
    omega (
      arith,
      rows_cut v s name.level c.args.page z w s.tile c.size_inside-inside.result.1 (z * w * c.rows_above.result)
          (z * w * c.size_inside-inside.result.1) name c.samples.result.now at c.page_at-name.ensures.name c.page_at-name.ensures.in_chain
          c.page_at-name.ensures.limits c.samples.ensures (c.texel_length.ensures.value ∙ ap texel_length c.depth.ensures.value)
          c.size-width.ensures.width refl c.size_inside-inside.ensures.rows (ap (λ (n : ℕ). z * w * n) c.rows_above.ensures.value) refl,
    )

pub returns-clause-rows : goal.returns-clause-rows
returns-clause-rows c =
    let s = c.args.geometry.now in
    let v = c.args.chain.now in
    let name = c.page_at-name.result in
    let z : ℕ = c.texel_length.result in
    let w : ℕ = c.size-width.result.0 in
    let at = is_at v s c.args.page name c.requires.shape c.page_at-name.ensures.name in
    rows_are v s name.level c.args.page z w s.tile c.size_inside-inside.result.1
    (z * w * c.rows_above.result) (z * w * c.rows_above.result + z * w * c.size_inside-inside.result.1 - z * w * c.rows_above.result)
    name c.samples.result.now at c.page_at-name.ensures.name c.page_at-name.ensures.in_chain
    c.page_at-name.ensures.limits c.samples.ensures (c.texel_length.ensures.value ∙ ap texel_length c.depth.ensures.value)
    c.size-width.ensures.width refl c.size_inside-inside.ensures.rows (ap (λ (n : ℕ). z * w * n) c.rows_above.ensures.value) (omega arith) (chain_texel v)
    (λ x y _ _. ap (λ (n : PageName). chain_texel v n.level x y) (sym c.page_at-name.ensures.name))
