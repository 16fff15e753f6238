use Rattle.std.proofs.Common.{◌≡◌, ℕ, ◌-◌, pos, ◌+ℤ◌, ◌*ℤ◌, ap, ◌∙◌}
use Rattle.vt_camera.specs.Rows.{level_within, camera_level}
use Rattle.vt_camera.specs.RowParts.{middle_of}
use Rattle.vt_camera.proofs.Ground.{same_axis}
use Rattle.vt_camera.proofs.rows.Row.of.Goals as goal

level_is : (c : goal.After-rows_of) → c.greatest_level-level.result ≡ camera_level c.args.camera.now c.args.y c.args.surface.now.levels
unfolding camera_level
level_is c = c.greatest_level-level.ensures.value ∙ ap (λ (p : ℕ). level_within p (c.args.surface.now.levels - 1)) c.span_of-span.ensures.value

pub invariant_of-result : goal.invariant_of-result
invariant_of-result c =
    let camera = c.args.camera.now in
    let surface = c.args.surface.now in
    record {
      width_low = c.width-width.ensures.low;
      width_high = c.width-width.ensures.high;
      focal_high = c.focal-focal.ensures.high;
      camera = c.requires.limits;
      surface = c.requires.sides;
      level_is = level_is c;
      level_high = c.greatest_level-level.ensures.few;
      columns_are = same_axis _ _ _ _ _ _ c.columns_of.result
          (ap (λ (n : ℕ). middle_of camera.u n camera.c surface.width *ℤ pos 32768 +ℤ pos 32767) c.distance_of-distance.ensures.value)
          (ap (λ (n : ℕ). pos n *ℤ camera.s) c.span_of-span.ensures.value)
          c.columns_of.ensures;
      rows_are = same_axis _ _ _ _ _ _ c.rows_of.result
          (ap (λ (n : ℕ). middle_of camera.v n camera.s surface.height *ℤ pos 32768) c.distance_of-distance.ensures.value)
          (ap (λ (n : ℕ). pos n *ℤ camera.c) c.span_of-span.ensures.value)
          c.rows_of.ensures;
    }
