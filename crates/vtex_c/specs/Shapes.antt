-- Shapes of textures and names of pages as C gives them.
use Rattle.std.specs.Prelude.{◌≡◌, ℕ, ◌<◌, Option, None, Some, IsSome}
use Rattle.vt_pages.specs.Shape.{Shape, shape_of}
use Rattle.vt_pages.specs.Pages.{IsPage, IsWithinLimits, levels_of, pages_of, name_at, index_of, refusal_of}
use Rattle.vt_pages.specs.declared.PageName.{PageName}
use Rattle.vt_residency.specs.Levels.{IsLevelOf}
use Rattle.vt_residency.specs.declared.levels.Level.{Level}
use Rattle.vtex_c.specs.declared.shape.VtexName.{VtexName}
use Rattle.vtex_c.specs.declared.shape.VtexShape.{VtexShape}

-- the shape of the three numbers
abbrev pub shape_in : VtexShape → Shape
shape_in s = shape_of s.width s.height s.tile

-- a geometry is that of the three numbers, which are within the limits
abbrev pub IsGeometryIn : VtexShape → Shape → Type 0
IsGeometryIn s g = (g ≡ shape_in s) × IsWithinLimits g

-- the shape of the three numbers is refused
abbrev pub IsShapeRefused : Shape → Type 0
IsShapeRefused s = IsSome (refusal_of s)

-- the name of a page
abbrev pub name_in : VtexName → PageName
name_in n = record { level = n.level; col = n.column; row = n.row }

-- a page, or the number that stands for none
abbrev pub page_in : Option ℕ → ℕ
page_in None = 4294967295
page_in (Some p) = p

-- a level was answered: 0; the shape is refused: 1; it has no such level: 2
pub record IsLevelAnswer (shape : VtexShape) (level : ℕ) (old : Level) (status : ℕ) (new : Level) : Type 0 where
  pub statuses : status < 3
  pub lawful : status ≡ 0 → IsWithinLimits (shape_in shape)
  pub inside : status ≡ 0 → level < levels_of (shape_in shape)
  pub answered : status ≡ 0 → IsLevelOf (shape_in shape) level new
  pub refused : status ≡ 1 → IsShapeRefused (shape_in shape)
  pub outside : status ≡ 2 → level < levels_of (shape_in shape) → ⊥
  pub kept : (status ≡ 0 → ⊥) → new ≡ old

-- a page was named: 0; the shape is refused: 1; it has no such page: 2
pub record IsNamed (shape : VtexShape) (page : ℕ) (old : VtexName) (status : ℕ) (new : VtexName) : Type 0 where
  pub statuses : status < 3
  pub lawful : status ≡ 0 → IsWithinLimits (shape_in shape)
  pub inside : status ≡ 0 → page < pages_of (shape_in shape)
  pub named : status ≡ 0 → name_in new ≡ name_at (shape_in shape) page
  pub refused : status ≡ 1 → IsShapeRefused (shape_in shape)
  pub outside : status ≡ 2 → page < pages_of (shape_in shape) → ⊥
  pub kept : (status ≡ 0 → ⊥) → new ≡ old

-- the page of a name was answered: 0; the shape is refused: 1; no page has this name: 2
pub record IsPageAnswer (shape : VtexShape) (name : VtexName) (old status new : ℕ) : Type 0 where
  pub statuses : status < 3
  pub lawful : status ≡ 0 → IsWithinLimits (shape_in shape)
  pub inside : status ≡ 0 → IsPage (shape_in shape) (name_in name)
  pub page : status ≡ 0 → new ≡ index_of (shape_in shape) (name_in name)
  pub refused : status ≡ 1 → IsShapeRefused (shape_in shape)
  pub outside : status ≡ 2 → IsPage (shape_in shape) (name_in name) → ⊥
  pub kept : (status ≡ 0 → ⊥) → new ≡ old
