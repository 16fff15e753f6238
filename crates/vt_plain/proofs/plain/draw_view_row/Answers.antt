use Rattle.std.proofs.Common.{ℕ, ◌*◌, ap, ap₂, sym, ◌∙◌, arith}
use Rattle.vt_pages.specs.Depths.{texel_length}
use Rattle.vt_camera.specs.Rows.{RowView, row_of}
use Rattle.vt_plain.specs.Plain.{row_samples}
use Rattle.vt_plain.specs.Views.{source_of}
use Rattle.vt_plain.proofs.WantedLevels.{drawable}
use Rattle.vt_plain.proofs.plain.draw_view_row.Goals as goal

pub of-row-requires-clause-within : goal.of-row-requires-clause-within
of-row-requires-clause-within g c = c.requires.row.inside

pub of-row-requires-clause-limits : goal.of-row-requires-clause-limits
of-row-requires-clause-limits g c = c.requires.row.view.camera

pub of-row-requires-clause-sides : goal.of-row-requires-clause-sides
of-row-requires-clause-sides g c = c.requires.row.view.levels.limits

pub draw_plain_row-requires-clause-wanted : goal.draw_plain_row-requires-clause-wanted
draw_plain_row-requires-clause-wanted g c =
    (drawable c.args.view.now c.args.y c.of-row.result c.requires.row.view c.requires.row.inside c.of-row.ensures).wanted

pub draw_plain_row-requires-clause-there : goal.draw_plain_row-requires-clause-there
draw_plain_row-requires-clause-there g c =
    (drawable c.args.view.now c.args.y c.of-row.result c.requires.row.view c.requires.row.inside c.of-row.ensures).there

pub draw_plain_row-requires-clause-columns : goal.draw_plain_row-requires-clause-columns
draw_plain_row-requires-clause-columns g c =
    (drawable c.args.view.now c.args.y c.of-row.result c.requires.row.view c.requires.row.inside c.of-row.ensures).columns

pub draw_plain_row-requires-clause-rows : goal.draw_plain_row-requires-clause-rows
draw_plain_row-requires-clause-rows g c =
    (drawable c.args.view.now c.args.y c.of-row.result c.requires.row.view c.requires.row.inside c.of-row.ensures).rows

pub draw_plain_row-requires-clause-width : goal.draw_plain_row-requires-clause-width
draw_plain_row-requires-clause-width g c =
    let wide = ap (λ (r : RowView). r.width) c.of-row.ensures in omega (arith, wide, c.width-columns.ensures.value)

pub draw_plain_row-requires-clause-room : goal.draw_plain_row-requires-clause-room
draw_plain_row-requires-clause-room g c =
    c.requires.row.full ∙ ap₂ (λ (m n : ℕ). texel_length m * n) c.requires.own (sym c.width-columns.ensures.value)

pub returns : goal.returns
returns g c =
    let d = g.row.DEPTH in
    let v = c.args.view.now in
    let row : RowView = row_of v.path.now v.camera c.args.y v.levels.surface in
    c.draw_plain_row.ensures
    ∙ ap (λ (r : RowView). row_samples d (source_of v.levels) r c.width-columns.result) c.of-row.ensures
    ∙ ap₂ (λ (m n : ℕ). row_samples m (source_of v.levels) row n) (sym c.requires.own) c.width-columns.ensures.value
