-- What the calls from C do to a cache, by the number that they answer.
use Rattle.std.specs.Prelude.{◌≡◌, ℕ, ◌<◌, ◌≤◌, Option, None, Some, List, length, map, IfSome, IfNone}
use Rattle.std.specs.List.{All}
use Rattle.vt_definitions.specs.Limits.{most_frames}
use Rattle.vt_pages.specs.Shape.{Shape}
use Rattle.vt_pages.specs.Pages.{IsWithinLimits, pages_of}
use Rattle.vt_residency.specs.Changes.{HasChanges}
use Rattle.vt_residency.specs.Levels.{IsLevelTable, HasLevelLength}
use Rattle.vt_residency.specs.Loads.{HasLoads}
use Rattle.vt_residency.specs.Needs.{state_for}
use Rattle.vt_residency.specs.Places.{IsPlaceOf}
use Rattle.vt_residency.specs.Residencies.{ResidencyView, IsPassed, IsResidencyKept, IsCommitted, IsInfo, first_residency}
use Rattle.vt_residency.specs.Tallies.{IsPageOrNone}
use Rattle.vt_residency.specs.declared.changes.Change.{Change}
use Rattle.vt_residency.specs.declared.feedback.Listed.{Listed}
use Rattle.vt_residency.specs.declared.loads.Load.{Load}
use Rattle.vt_residency.specs.declared.places.Place.{Place}
use Rattle.vt_residency.specs.declared.residency.Info.{Info}
use Rattle.vtex_c.specs.declared.cache.Cache.{Cache}
use Rattle.vtex_c.specs.declared.shape.VtexShape.{VtexShape}
use Rattle.vtex_c.specs.Shapes.{IsShapeRefused, shape_in}

-- there is a residency before and after, and the two are related
abbrev pub Between : (ResidencyView → ResidencyView → Type 0) → Option ResidencyView → Option ResidencyView → Type 0
Between P None new = ⊥
Between P (Some a) None = ⊥
Between P (Some a) (Some b) = P a b

-- there is a residency, of which this holds
abbrev pub Holding : (ResidencyView → Type 0) → Option ResidencyView → Type 0
Holding P None = ⊥
Holding P (Some a) = P a

-- the numbers of frames and of pinned pages that a cache may have
pub record AreFrameCounts (s : Shape) (frames pinned : ℕ) : Type 0 where
  pub few_frames : frames ≤ most_frames
  pub some_pinned : 1 ≤ pinned
  pub enough_frames : pinned ≤ frames
  pub enough_pages : pinned ≤ pages_of s

-- a cache was opened: 0; else it is as it was, and the shape was refused: 1; the numbers of frames or of pinned pages were: 2; memory was: 3
pub record IsCacheOpened (old : Cache) (s : VtexShape) (frames pinned status : ℕ) (new : Cache) : Type 0 where
  pub inside : status ≡ 0 → IsWithinLimits (shape_in s) × AreFrameCounts (shape_in s) frames pinned
  pub opened : status ≡ 0 → new.inner ≡ Some (first_residency (shape_in s) frames pinned)
  pub refused : status ≡ 1 → IsShapeRefused (shape_in s)
  pub unframed : status ≡ 2 → AreFrameCounts (shape_in s) frames pinned → ⊥
  pub exhausted : status ≡ 3 → IsWithinLimits (shape_in s) × AreFrameCounts (shape_in s) frames pinned
  pub statuses : status < 4
  pub kept : (status ≡ 0 → ⊥) → new.inner ≡ old.inner

-- there is a count for each page
abbrev pub AreCounts : List ℕ → ResidencyView → Type 0
AreCounts pixels a = length pixels ≡ pages_of a.table.shape

-- a list names pages only
abbrev pub AreListed : List Listed → ResidencyView → Type 0
AreListed list a = All (λ w. w.page < pages_of a.table.shape) list

-- a list has pages only, and the number that stands for none
abbrev pub ArePages : List ℕ → ResidencyView → Type 0
ArePages list a = All (IsPageOrNone (pages_of a.table.shape)) list

-- a pass was planned: 0; its feedback does not fit: 2; memory was refused, and at most the order changed: 3; there is no residency: 4
pub record IsPassedBy (old : Cache) (pixels : ℕ → ℕ) (Fits : ResidencyView → Type 0) (q status : ℕ) (new : Cache) : Type 0 where
  pub statuses : (status < 5) × (status ≡ 1 → ⊥)
  pub fits : status ≡ 0 → Holding Fits old.inner
  pub planned : status ≡ 0 → Between (λ a b. IsPassed a pixels q b) old.inner new.inner
  pub unfit : status ≡ 2 → Holding (λ a. Fits a → ⊥) old.inner
  pub same : status ≡ 2 → new.inner ≡ old.inner
  pub exhausted : status ≡ 3 → Holding Fits old.inner
  pub kept : status ≡ 3 → Between IsResidencyKept old.inner new.inner
  pub closed : status ≡ 4 → (old.inner ≡ None) × (new.inner ≡ None)

-- the loads that are under way were listed, or there is no residency
pub record IsListed (old : Cache) (before : List Load) (count : ℕ) (after : List Load) (new : Cache) : Type 0 where
  pub same : new ≡ old
  pub long : length after ≡ length before
  pub listed : IfSome old.inner (λ a. HasLoads a.loads before count after)
  pub closed : IfNone old.inner ((count ≡ 0) × (after ≡ before))

-- the loads were settled: 0; there is not a byte for each: 2; memory was refused, and the residency is gone: 3; there is none: 4
pub record IsSettledBy (old : Cache) (states : List ℕ) (status : ℕ) (new : Cache) : Type 0 where
  pub statuses : (status < 5) × (status ≡ 1 → ⊥)
  pub fits : status ≡ 0 → Holding (λ a. length states ≡ length a.loads) old.inner
  pub settled : status ≡ 0 → Between (λ a b. IsCommitted a states b) old.inner new.inner
  pub unfit : status ≡ 2 → Holding (λ a. length states ≡ length a.loads → ⊥) old.inner
  pub kept : status ≡ 2 → new.inner ≡ old.inner
  pub exhausted : status ≡ 3 → Holding (λ a. length states ≡ length a.loads) old.inner
  pub gone : status ≡ 3 → new.inner ≡ None
  pub closed : status ≡ 4 → (old.inner ≡ None) × (new.inner ≡ None)

-- a number was answered for each load that is under way, by what wanted pages need: 0; they are no pages, or there is not a byte for each load: 2;
-- there is no residency: 4
pub record AreStates (old : Cache) (wanted before : List ℕ) (status : ℕ) (after : List ℕ) (new : Cache) : Type 0 where
  pub same : new ≡ old
  pub long : length after ≡ length before
  pub statuses : (status < 5) × (status ≡ 1 → ⊥) × (status ≡ 3 → ⊥)
  pub fits : status ≡ 0 → Holding (λ a. ArePages wanted a × (length before ≡ length a.loads)) old.inner
  pub answered : status ≡ 0 → Holding (λ a. after ≡ map (state_for a.table.shape wanted) a.loads) old.inner
  pub unfit : status ≡ 2 → Holding (λ a. ArePages wanted a → length before ≡ length a.loads → ⊥) old.inner
  pub closed : status ≡ 4 → old.inner ≡ None
  pub kept : (status ≡ 0 → ⊥) → after ≡ before

-- the changes of the last settling were listed, or there is no residency
pub record AreChanges (old : Cache) (before : List Change) (count : ℕ) (after : List Change) (new : Cache) : Type 0 where
  pub same : new ≡ old
  pub long : length after ≡ length before
  pub listed : IfSome old.inner (λ a. HasChanges a.came before count after)
  pub closed : IfNone old.inner ((count ≡ 0) × (after ≡ before))

-- a page was looked up: 0; there is no such page: 2; there is no residency: 4
pub record IsLookedUp (old : Cache) (page : ℕ) (before : Place) (status : ℕ) (after : Place) (new : Cache) : Type 0 where
  pub same : new ≡ old
  pub statuses : (status < 5) × (status ≡ 1 → ⊥) × (status ≡ 3 → ⊥)
  pub inside : status ≡ 0 → Holding (λ a. page < pages_of a.table.shape) old.inner
  pub found : status ≡ 0 → Holding (λ a. IsPlaceOf a.table.shape a.table.entries page after) old.inner
  pub outside : status ≡ 2 → Holding (λ a. pages_of a.table.shape ≤ page) old.inner
  pub closed : status ≡ 4 → old.inner ≡ None
  pub kept : (status ≡ 0 → ⊥) → after ≡ before

-- the page table of a level was answered: 0; there is no such level, or the list is not as long: 2; there is no residency: 4
pub record IsLevelListed (old : Cache) (level : ℕ) (before : List ℕ) (status : ℕ) (after : List ℕ) (new : Cache) : Type 0 where
  pub same : new ≡ old
  pub long : length after ≡ length before
  pub statuses : (status < 5) × (status ≡ 1 → ⊥) × (status ≡ 3 → ⊥)
  pub answered : status ≡ 0 → Holding (λ a. IsLevelTable a.table.shape a.table.entries level after) old.inner
  pub unfit : status ≡ 2 → Holding (λ a. HasLevelLength a.table.shape level (length before) → ⊥) old.inner
  pub closed : status ≡ 4 → old.inner ≡ None
  pub kept : (status ≡ 0 → ⊥) → after ≡ before

-- the numbers of a residency were answered: 0; there is none: 4
pub record IsInfoAnswer (old : Cache) (before : Info) (status : ℕ) (after : Info) (new : Cache) : Type 0 where
  pub same : new ≡ old
  pub statuses : (status < 5) × (status ≡ 1 → ⊥) × (status ≡ 2 → ⊥) × (status ≡ 3 → ⊥)
  pub answered : status ≡ 0 → Holding (λ a. IsInfo a after) old.inner
  pub closed : status ≡ 4 → old.inner ≡ None
  pub kept : (status ≡ 0 → ⊥) → after ≡ before

-- a cache was closed: 0
pub record IsClosed (old : Cache) (status : ℕ) (new : Cache) : Type 0 where
  pub done : status ≡ 0
  pub closed : new.inner ≡ None
