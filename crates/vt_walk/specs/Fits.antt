-- Which pictures fit into the frames: how many unpinned pages are in the ancestor chains of their wanted pages.
use Rattle.std.specs.Prelude.{◌≡◌, ℕ, ◌-◌, ◌<◌, ◌≤◌, Bool, List}
use Rattle.vt_pages.specs.Shape.{Shape}
use Rattle.vt_feedback.specs.declared.Wanted.{Wanted}
use Rattle.vt_feedback.specs.Wants.{IsWants}
use Rattle.vt_plan.specs.Views.{first_view, pages_needed}
use Rattle.vt_walk_decisions.specs.declared.mode.Mode.{Mode}

-- what a walk is of: its mode, how the texture is cut into pages, the numbers of frames and of pinned pages, the most entries of a
-- batch, the number of samplers and whether rows are dealt to them, the height and the number of the pictures, and how many pixels
-- of each picture need each page
pub record WalkSetup : Type 0 where
  pub mode : Mode
  pub shape : Shape
  pub frames : ℕ
  pub pinned : ℕ
  pub most : ℕ
  pub samplers : ℕ
  pub dealt : Bool
  pub height : ℕ
  pub pictures : ℕ
  pub needs : ℕ → ℕ → ℕ

-- how many frames are not those of pinned pages
abbrev pub room_beside_pinned : WalkSetup → ℕ
room_beside_pinned w = w.frames - w.pinned

-- so many distinct unpinned pages are in the lines of the pages that a picture wants
pub record NeedsFrames (w : WalkSetup) (picture needed : ℕ) : Type 0 where
  pub wants : List Wanted
  pub wanted : IsWants w.shape (w.needs picture) wants
  pub count : needed ≡ pages_needed (first_view w.shape w.frames w.pinned) wants

-- a picture fits: the pages that it needs have room beside the pinned ones
pub record PictureFits (w : WalkSetup) (picture : ℕ) : Type 0 where
  pub needed : ℕ
  pub pages : NeedsFrames w picture needed
  pub room : needed ≤ room_beside_pinned w

-- a picture does not fit: it needs so many pages, and there is room for fewer
pub record DoesNotFit (w : WalkSetup) (picture needed : ℕ) : Type 0 where
  pub pages : NeedsFrames w picture needed
  pub no_room : room_beside_pinned w < needed
