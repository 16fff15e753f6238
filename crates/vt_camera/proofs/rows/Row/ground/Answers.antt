use Rattle.std.proofs.Common.{◌≡◌, ◌*◌, ◌/◌, ◌%◌, ℤ, pos, ◌-ℤ◌, ◌+ℤ◌, ◌*ℤ◌, to_z, of_z, refl, ap, ◌∙◌, subst}
use Rattle.std.specs.Int.{w64}
use Rattle.vt_camera.specs.Rows.{RowView, off_middle, span, row_place, row_spot}
use Rattle.vt_camera.proofs.Bits.{off_same, off_low, off_high}
use Rattle.vt_camera.proofs.Ground.{axis_middle_low, axis_middle_high, axis_across_low, axis_across_high, axis_middle, axis_across, column_shown, row_shown, column_spot, row_spot_is}
use Rattle.vt_camera.proofs.rows.Row.ground.Goals as goal

pub place_before-requires-clause-middle_low : goal.place_before-requires-clause-middle_low
place_before-requires-clause-middle_low c = axis_middle_low c.self.invariant.columns_are

pub place_before-requires-clause-middle_high : goal.place_before-requires-clause-middle_high
place_before-requires-clause-middle_high c = axis_middle_high c.self.invariant.columns_are

pub place_before-requires-clause-across_low : goal.place_before-requires-clause-across_low
place_before-requires-clause-across_low c = axis_across_low c.self.invariant.columns_are

pub place_before-requires-clause-across_high : goal.place_before-requires-clause-across_high
place_before-requires-clause-across_high c = axis_across_high c.self.invariant.columns_are

pub place_beyond-requires-clause-middle_low : goal.place_beyond-requires-clause-middle_low
place_beyond-requires-clause-middle_low c = axis_middle_low c.self.invariant.rows_are

pub place_beyond-requires-clause-middle_high : goal.place_beyond-requires-clause-middle_high
place_beyond-requires-clause-middle_high c = axis_middle_high c.self.invariant.rows_are

pub place_beyond-requires-clause-across_low : goal.place_beyond-requires-clause-across_low
place_beyond-requires-clause-across_low c = axis_across_low c.self.invariant.rows_are

pub place_beyond-requires-clause-across_high : goal.place_beyond-requires-clause-across_high
place_beyond-requires-clause-across_high c = axis_across_high c.self.invariant.rows_are

pub place_before-requires-clause-off_low : goal.place_before-requires-clause-off_low
place_before-requires-clause-off_low c = off_low _ c.half_pixels-off.ensures.low c.half_pixels-off.ensures.high

pub place_before-requires-clause-off_high : goal.place_before-requires-clause-off_high
place_before-requires-clause-off_high c = off_high _ c.half_pixels-off.ensures.low c.half_pixels-off.ensures.high

pub place_beyond-requires-clause-off_low : goal.place_beyond-requires-clause-off_low
place_beyond-requires-clause-off_low c = off_low _ c.half_pixels-off.ensures.low c.half_pixels-off.ensures.high

pub place_beyond-requires-clause-off_high : goal.place_beyond-requires-clause-off_high
place_beyond-requires-clause-off_high c = off_high _ c.half_pixels-off.ensures.low c.half_pixels-off.ensures.high

-- how far off the row's middle the pixel lies
off_is : (c : goal.After-place_beyond) → to_z w64 (of_z w64 c.half_pixels-off.result) ≡ off_middle c.self.inside.width c.args.x
off_is c =
    off_same _ c.half_pixels-off.ensures.low c.half_pixels-off.ensures.high ∙ c.half_pixels-off.ensures.value

pub returns-clause-column : goal.returns-clause-column
returns-clause-column c =
    let Shown : RowView → Type 0 = λ row. c.place_before.result / 256 % row.surface.width ≡ (row_place row c.args.x).0 in
    let row = c.self.inside in
    let columns = c.self.invariant.columns_are in
    subst Shown c.self.view_is
    (column_shown row.width row.focal row.camera c.args.x row.y row.surface.width row.surface.height row.columns.middle
    (off_middle row.width c.args.x *ℤ (pos (span row.camera row.y) *ℤ row.camera.s)) _ c.place_before.result
    c.self.invariant.surface.width_low columns.middle_is refl
    (ap (λ (z : ℤ). z -ℤ to_z w64 (of_z w64 c.half_pixels-off.result) *ℤ to_z w64 (of_z w64 row.columns.across)) (axis_middle columns)
    ∙ ap (λ (z : ℤ). row.columns.middle -ℤ z *ℤ to_z w64 (of_z w64 row.columns.across)) (off_is c)
    ∙ ap (λ (z : ℤ). row.columns.middle -ℤ off_middle row.width c.args.x *ℤ z) (axis_across columns))
    c.place_before.ensures.positive c.place_before.ensures.value)

pub returns-clause-row : goal.returns-clause-row
returns-clause-row c =
    let Shown : RowView → Type 0 = λ row. c.place_beyond.result / 256 % row.surface.height ≡ (row_place row c.args.x).1 in
    let row = c.self.inside in
    let rows = c.self.invariant.rows_are in
    subst Shown c.self.view_is
    (row_shown row.width row.focal row.camera c.args.x row.y row.surface.width row.surface.height row.rows.middle
    (off_middle row.width c.args.x *ℤ (pos (span row.camera row.y) *ℤ row.camera.c)) _ c.place_beyond.result
    c.self.invariant.surface.height_low rows.middle_is refl
    (ap (λ (z : ℤ). z +ℤ to_z w64 (of_z w64 c.half_pixels-off.result) *ℤ to_z w64 (of_z w64 row.rows.across)) (axis_middle rows)
    ∙ ap (λ (z : ℤ). row.rows.middle +ℤ z *ℤ to_z w64 (of_z w64 row.rows.across)) (off_is c)
    ∙ ap (λ (z : ℤ). row.rows.middle +ℤ off_middle row.width c.args.x *ℤ z) (axis_across rows))
    c.place_beyond.ensures.positive c.place_beyond.ensures.value)

pub returns-clause-column_spot : goal.returns-clause-column_spot
returns-clause-column_spot c =
    let Shown : RowView → Type 0 = λ row. c.place_before.result % (256 * row.surface.width) ≡ (row_spot row c.args.x).0 in
    let row = c.self.inside in
    let columns = c.self.invariant.columns_are in
    subst Shown c.self.view_is
    (column_spot row.width row.focal row.camera c.args.x row.y row.surface.width row.surface.height row.columns.middle
    (off_middle row.width c.args.x *ℤ (pos (span row.camera row.y) *ℤ row.camera.s)) _ c.place_before.result
    c.self.invariant.surface.width_low columns.middle_is refl
    (ap (λ (z : ℤ). z -ℤ to_z w64 (of_z w64 c.half_pixels-off.result) *ℤ to_z w64 (of_z w64 row.columns.across)) (axis_middle columns)
    ∙ ap (λ (z : ℤ). row.columns.middle -ℤ z *ℤ to_z w64 (of_z w64 row.columns.across)) (off_is c)
    ∙ ap (λ (z : ℤ). row.columns.middle -ℤ off_middle row.width c.args.x *ℤ z) (axis_across columns))
    c.place_before.ensures.positive c.place_before.ensures.value)

pub returns-clause-row_spot : goal.returns-clause-row_spot
returns-clause-row_spot c =
    let Shown : RowView → Type 0 = λ row. c.place_beyond.result % (256 * row.surface.height) ≡ (row_spot row c.args.x).1 in
    let row = c.self.inside in
    let rows = c.self.invariant.rows_are in
    subst Shown c.self.view_is
    (row_spot_is row.width row.focal row.camera c.args.x row.y row.surface.width row.surface.height row.rows.middle
    (off_middle row.width c.args.x *ℤ (pos (span row.camera row.y) *ℤ row.camera.c)) _ c.place_beyond.result
    c.self.invariant.surface.height_low rows.middle_is refl
    (ap (λ (z : ℤ). z +ℤ to_z w64 (of_z w64 c.half_pixels-off.result) *ℤ to_z w64 (of_z w64 row.rows.across)) (axis_middle rows)
    ∙ ap (λ (z : ℤ). row.rows.middle +ℤ z *ℤ to_z w64 (of_z w64 row.rows.across)) (off_is c)
    ∙ ap (λ (z : ℤ). row.rows.middle +ℤ off_middle row.width c.args.x *ℤ z) (axis_across rows))
    c.place_beyond.ensures.positive c.place_beyond.ensures.value)
