use Rattle.std.proofs.Common.{◌*◌, ◌%◌, ◌<◌, ap, ◌∙◌, subst, arith}
use Rattle.vt_camera.specs.Rows.{RowView}
use Rattle.vt_camera.proofs.Rings.{kept_spot, kept_spot_within}
use Rattle.vt_camera.proofs.rows.Row.place.Goals as goal

pub on_ring-requires : goal.on_ring-requires
on_ring-requires c = omega (arith, c.from.ensures, c.self.invariant.surface.width_high)

column_within : (c : goal.After-on_ring) → c.on_ring.result < 256 * c.self.inside.surface.width
column_within c =
    kept_spot_within c.ground-u.result.0 c.self.inside.surface.width c.self.inside.columns.part c.from.result c.on_ring.result
    c.self.invariant.surface.width_low c.self.invariant.surface.width_high c.ground-u.ensures.column_high c.self.invariant.columns_are.part_is
    c.from.ensures c.on_ring.ensures

pub overflow_cast-result : goal.overflow_cast-result
overflow_cast-result c = omega (arith, column_within c, c.self.invariant.surface.width_high)

pub returns-clause-column : goal.returns-clause-column
returns-clause-column c =
    kept_spot c.ground-u.result.0 c.self.inside.surface.width c.self.inside.columns.part c.from.result c.on_ring.result
    c.self.invariant.surface.width_low c.self.invariant.surface.width_high c.ground-u.ensures.column_high c.self.invariant.columns_are.part_is
    c.from.ensures c.on_ring.ensures
    ∙ ap (λ (r : RowView). c.ground-u.result.0 % (256 * r.surface.width)) c.self.view_is ∙ c.ground-u.ensures.column_spot

pub returns-clause-column_within : goal.returns-clause-column_within
returns-clause-column_within c =
    subst (λ (r : RowView). c.on_ring.result < 256 * r.surface.width) c.self.view_is
    (kept_spot_within c.ground-u.result.0 c.self.inside.surface.width c.self.inside.columns.part c.from.result c.on_ring.result
    c.self.invariant.surface.width_low c.self.invariant.surface.width_high c.ground-u.ensures.column_high c.self.invariant.columns_are.part_is
    c.from.ensures c.on_ring.ensures)

pub on_ring-requires-2 : goal.on_ring-requires-2
on_ring-requires-2 c = omega (arith, c.from-2.ensures, c.self.invariant.surface.height_high)

row_within : (c : goal.After-on_ring-2) → c.on_ring-2.result < 256 * c.self.inside.surface.height
row_within c =
    kept_spot_within c.ground-u.result.1 c.self.inside.surface.height c.self.inside.rows.part c.from-2.result c.on_ring-2.result
    c.self.invariant.surface.height_low c.self.invariant.surface.height_high c.ground-u.ensures.row_high c.self.invariant.rows_are.part_is
    c.from-2.ensures c.on_ring-2.ensures

pub overflow_cast-result-2 : goal.overflow_cast-result-2
overflow_cast-result-2 c = omega (arith, row_within c, c.self.invariant.surface.height_high)

pub returns-clause-row : goal.returns-clause-row
returns-clause-row c =
    kept_spot c.ground-u.result.1 c.self.inside.surface.height c.self.inside.rows.part c.from-2.result c.on_ring-2.result
    c.self.invariant.surface.height_low c.self.invariant.surface.height_high c.ground-u.ensures.row_high c.self.invariant.rows_are.part_is
    c.from-2.ensures c.on_ring-2.ensures
    ∙ ap (λ (r : RowView). c.ground-u.result.1 % (256 * r.surface.height)) c.self.view_is ∙ c.ground-u.ensures.row_spot

pub returns-clause-row_within : goal.returns-clause-row_within
returns-clause-row_within c = subst (λ (r : RowView). c.on_ring-2.result < 256 * r.surface.height) c.self.view_is (row_within c)
