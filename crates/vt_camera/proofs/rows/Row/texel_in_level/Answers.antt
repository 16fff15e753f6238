use Rattle.std.proofs.Common.{◌≡◌, ℕ, ◌/◌, ◌%◌, ◌^◌, ◌≤◌, ap, ◌∙◌, subst, arith}
use Rattle.vt_camera.specs.Rows.{RowView, row_level}
use Rattle.vt_camera.proofs.Rings.{turn_most, kept_level_texel, small_quotient, within_level}
use Rattle.vt_camera.proofs.rows.Row.texel_in_level.Goals as goal

pub on_ring-requires : goal.on_ring-requires
on_ring-requires c =
    omega (arith, c.self.invariant.columns_are.turn_is, turn_most c.self.inside.surface.width c.self.inside.level c.self.invariant.surface.width_high)

pub on_ring-requires-2 : goal.on_ring-requires-2
on_ring-requires-2 c =
    omega (arith, c.self.invariant.rows_are.turn_is, turn_most c.self.inside.surface.height c.self.inside.level c.self.invariant.surface.height_high)

pub overflow_cast-result : goal.overflow_cast-result
overflow_cast-result c =
    let row = c.self.inside in
    omega (
      arith,
      c.self.invariant.surface.width_high,
      small_quotient (c.ground-u.result.0 / 256) row.surface.width row.level c.self.invariant.surface.width_low,
      kept_level_texel c.ground-u.result.0 row.surface.width row.level row.columns.part row.columns.turn
          c.on_ring.result c.self.invariant.surface.width_low c.self.invariant.surface.width_high
          c.self.invariant.level_high c.ground-u.ensures.column_high c.self.invariant.columns_are.part_is
          c.self.invariant.columns_are.turn_is c.on_ring.ensures,
    )

pub overflow_cast-result-2 : goal.overflow_cast-result-2
overflow_cast-result-2 c =
    let row = c.self.inside in
    omega (
      arith,
      c.self.invariant.surface.height_high,
      small_quotient (c.ground-u.result.1 / 256) row.surface.height row.level c.self.invariant.surface.height_low,
      kept_level_texel c.ground-u.result.1 row.surface.height row.level row.rows.part row.rows.turn c.on_ring-2.result
          c.self.invariant.surface.height_low c.self.invariant.surface.height_high c.self.invariant.level_high
          c.ground-u.ensures.row_high c.self.invariant.rows_are.part_is c.self.invariant.rows_are.turn_is
          c.on_ring-2.ensures,
    )

column_is : (c : goal.After-on_ring-2) → c.on_ring.result / 65536 ≡ c.ground-u.result.0 / 256 % c.args.self.now.surface.width / 2 ^ row_level c.args.self.now
column_is c =
    let row = c.self.inside in
    kept_level_texel c.ground-u.result.0 row.surface.width row.level row.columns.part row.columns.turn
    c.on_ring.result c.self.invariant.surface.width_low c.self.invariant.surface.width_high
    c.self.invariant.level_high c.ground-u.ensures.column_high c.self.invariant.columns_are.part_is
    c.self.invariant.columns_are.turn_is c.on_ring.ensures
    ∙ ap (λ (k : ℕ). c.ground-u.result.0 / 256 % row.surface.width / 2 ^ k) c.self.invariant.level_is
    ∙ ap (λ (r : RowView). c.ground-u.result.0 / 256 % r.surface.width / 2 ^ row_level r) c.self.view_is

row_is : (c : goal.After-on_ring-2) → c.on_ring-2.result / 65536 ≡ c.ground-u.result.1 / 256 % c.args.self.now.surface.height / 2 ^ row_level c.args.self.now
row_is c =
    let row = c.self.inside in
    kept_level_texel c.ground-u.result.1 row.surface.height row.level row.rows.part row.rows.turn c.on_ring-2.result
    c.self.invariant.surface.height_low c.self.invariant.surface.height_high c.self.invariant.level_high
    c.ground-u.ensures.row_high c.self.invariant.rows_are.part_is c.self.invariant.rows_are.turn_is
    c.on_ring-2.ensures
    ∙ ap (λ (k : ℕ). c.ground-u.result.1 / 256 % row.surface.height / 2 ^ k) c.self.invariant.level_is
    ∙ ap (λ (r : RowView). c.ground-u.result.1 / 256 % r.surface.height / 2 ^ row_level r) c.self.view_is

pub returns-clause-column : goal.returns-clause-column
returns-clause-column c = column_is c ∙ ap (λ (n : ℕ). n / 2 ^ row_level c.args.self.now) c.ground-u.ensures.column

pub returns-clause-row : goal.returns-clause-row
returns-clause-row c = row_is c ∙ ap (λ (n : ℕ). n / 2 ^ row_level c.args.self.now) c.ground-u.ensures.row

pub returns-clause-column_within : goal.returns-clause-column_within
returns-clause-column_within c =
    let Some : RowView → Type 0 = λ row. 1 ≤ row.surface.width in
    let some : 1 ≤ c.args.self.now.surface.width = subst Some c.self.view_is c.self.invariant.surface.width_low in
    rw (column_is c) (within_level (c.ground-u.result.0 / 256) c.args.self.now.surface.width (row_level c.args.self.now) some)

pub returns-clause-row_within : goal.returns-clause-row_within
returns-clause-row_within c =
    let Some : RowView → Type 0 = λ row. 1 ≤ row.surface.height in
    let some : 1 ≤ c.args.self.now.surface.height = subst Some c.self.view_is c.self.invariant.surface.height_low in
    rw (row_is c) (within_level (c.ground-u.result.1 / 256) c.args.self.now.surface.height (row_level c.args.self.now) some)
