use Rattle.std.proofs.Common.{ℕ, ◌*◌, ◌≤◌, ap, ap₂, sym, subst, ◌∙◌, arith}
use Rattle.vt_definitions.specs.Depths.{texel_length}
use Rattle.vt_definitions.specs.Limits.{most_levels}
use Rattle.vt_camera.specs.Rows.{RowView, row_of}
use Rattle.vt_plain.specs.Plain.{chain_of}
use Rattle.vt_plain.specs.BlendedPlain.{row_blends}
use Rattle.vt_plain.proofs.blended.blend_view_row.Goals as goal

pub of-row-requires-clause-within : goal.of-row-requires-clause-within
of-row-requires-clause-within g c = c.requires.row.inside

pub of-row-requires-clause-limits : goal.of-row-requires-clause-limits
of-row-requires-clause-limits g c = c.requires.row.view.camera

pub of-row-requires-clause-sides : goal.of-row-requires-clause-sides
of-row-requires-clause-sides g c = c.requires.row.view.limits

pub blend_row-requires-clause-surface : goal.blend_row-requires-clause-surface
blend_row-requires-clause-surface g c = ap (λ (r : RowView). r.surface) c.of-row.ensures ∙ c.requires.row.view.surface

pub blend_row-requires-clause-width : goal.blend_row-requires-clause-width
blend_row-requires-clause-width g c =
    let wide = ap (λ (r : RowView). r.width) c.of-row.ensures in omega (arith, wide, c.width-columns.ensures.value)

pub blend_row-requires-clause-levels : goal.blend_row-requires-clause-levels
blend_row-requires-clause-levels g c = subst (λ (r : RowView). r.surface.levels ≤ most_levels) (sym c.of-row.ensures) c.requires.row.view.levels

pub blend_row-requires-clause-room : goal.blend_row-requires-clause-room
blend_row-requires-clause-room g c =
    c.requires.row.full ∙ ap₂ (λ (m n : ℕ). texel_length m * n) c.requires.own (sym c.width-columns.ensures.value)

pub returns : goal.returns
returns g c =
    let v = c.args.view.now in
    let source = chain_of v.chain.now.base in
    let row : RowView = row_of v.path.now v.camera c.args.y v.surface in
    c.blend_row.ensures
    ∙ ap (λ (r : RowView). row_blends g.row.DEPTH source r c.width-columns.result) c.of-row.ensures
    ∙ ap₂ (λ (m n : ℕ). row_blends m source row n) (sym c.requires.own) c.width-columns.ensures.value
