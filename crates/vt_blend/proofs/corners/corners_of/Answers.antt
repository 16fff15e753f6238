use Rattle.std.proofs.Common.{ℕ, ◌/◌, ◌^◌, ◌<◌, sym, subst, ◌∙◌}
use Rattle.vt_blend.proofs.Inside.{texel_inside}
use Rattle.vt_blend.proofs.Weighing.{corners_are}
use Rattle.vt_blend.proofs.corners.corners_of.Goals as goal

pub corners_at-requires-clause-column : goal.corners_at-requires-clause-column
corners_at-requires-clause-column c =
    subst (λ (n : ℕ). c.place-u.result.0 / 2 ^ c.args.level / 256 < n) (sym c.requires.columns)
    (texel_inside c.args.row.now.surface.width c.place-u.result.0 c.args.level c.place-u.ensures.column_within)

pub corners_at-requires-clause-line : goal.corners_at-requires-clause-line
corners_at-requires-clause-line c =
    subst (λ (n : ℕ). c.place-u.result.1 / 2 ^ c.args.level / 256 < n) (sym c.requires.rows)
    (texel_inside c.args.row.now.surface.height c.place-u.result.1 c.args.level c.place-u.ensures.row_within)

pub returns-clause-value : goal.returns-clause-value
returns-clause-value c =
    c.corners_at.ensures.value
    ∙ corners_are c.args.row.now c.args.x c.args.level c.args.columns c.args.rows c.place-u.result.0 c.place-u.result.1 c.requires.level
    c.requires.columns c.requires.rows c.place-u.ensures.column c.place-u.ensures.row
