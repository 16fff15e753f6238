use Rattle.std.proofs.Common.{◌<◌, arith, subst}
use Rattle.vt_camera.specs.Rows.{RowView}
use Rattle.vt_camera.proofs.LevelLemmas.{level_of_within}
use Rattle.vt_camera.proofs.rows.Row.level.Goals as goal

pub returns-clause-within : goal.returns-clause-within
returns-clause-within c =
    let Within : RowView → Type 0 = λ row. c.self.inside.level < row.surface.levels in
    subst Within c.self.view_is
    (omega (
      arith,
      c.self.invariant.level_is,
      level_of_within c.self.inside.camera c.self.inside.y c.self.inside.surface.levels c.self.invariant.surface.some_level,
    ))
