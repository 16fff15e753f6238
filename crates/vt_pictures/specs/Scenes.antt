-- What pictures are drawn of.
use Rattle.std.specs.Prelude.{ℕ}
use Rattle.vt_journal.specs.Shape.{Shape}
use Rattle.vt_draw.specs.Paths.{PathView}

-- what pictures are drawn of: a texture that is cut into pages, how many bytes its samples have, and a path
pub record Scene : Type 0 where
  pub shape : Shape
  pub depth : ℕ
  pub path : PathView

-- the scene of these
abbrev pub scene_of : Shape → ℕ → PathView → Scene
scene_of s d p = record { shape = s; depth = d; path = p }
