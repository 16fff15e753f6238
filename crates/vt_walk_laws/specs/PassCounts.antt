-- How many passes a settled picture has: which pages it loads, and how many of them are in one line.
-- By hand: a texture of 8 by 8 in tiles of 2 has the pages 0 to 15, 16 to 19 and the pinned root 20. A picture that wants 0 and 12,
-- whose lines are 0 16 20 and 12 18 20, loads 0, 16, 12 and 18, two in one line: 3 or 4 passes by batches of 64, 6 to 8 one by one.
use Rattle.std.specs.Prelude.{◌≡◌, ℕ, max, Bool, List, [], ◌∷◌, ◌++◌, map, take}
use Rattle.std.specs.List.{flat_map, AllByRecursion}
use Rattle.vt_machine.specs.Shape.{Shape}
use Rattle.vt_machine.specs.Pages.{ancestors_of}
use Rattle.vt_machine.specs.Lookups.{pages_before}
use Rattle.vt_walk.specs.Wants.{pages_wanted}
use Rattle.vt_machine.specs.PlanTypes.batches.Planned.{Planned}
use Rattle.vt_machine.specs.PageLists.{each_once}
use Rattle.vt_machine.specs.Missing.{has_frame}
use Rattle.vt_walk.specs.WalkDecisionsTypes.mode.Mode.TheVariants.{Settled}
use Rattle.vt_walk.specs.Fits.{WalkSetup}
use Rattle.vt_walk.specs.Runs.{WalkPass, IsWalkSetup, IsWalkRun, IsFinished, WalkGoesOn, recency_after}
use Rattle.vt_walk.specs.Logs.{passes_of}

-- the pages that are before the look-up in a page's line
abbrev pub before_lookup : Shape → (ℕ → Bool) → ℕ → List ℕ
before_lookup s mapped p = take (pages_before s mapped p) (ancestors_of s p)

-- the distinct pages that are before the look-up in the line of one of some pages
unfoldable pub pages_to_load : Shape → (ℕ → Bool) → List ℕ → List ℕ
pages_to_load s mapped pages = each_once (flat_map (before_lookup s mapped) pages)

-- the greatest number of pages that are before the look-up in the line of one of some pages
abbrev pub most_before : Shape → (ℕ → Bool) → List ℕ → ℕ
most_before s mapped [] = 0
most_before s mapped (p ∷ pages) = max (pages_before s mapped p) (most_before s mapped pages)

-- which pages are mapped after the newest of some passes
abbrev pub mapped_after : WalkSetup → List WalkPass → ℕ → Bool
mapped_after w passes = has_frame (recency_after w passes).entries

-- the pages that a picture is to load, by the table after its first pass
abbrev pub picture_pages : WalkSetup → WalkPass → List WalkPass → List ℕ
picture_pages w first before = pages_to_load w.shape (mapped_after w (first ∷ before)) (pages_wanted first.wants)

-- the most of them in one line
abbrev pub most_in_line : WalkSetup → WalkPass → List WalkPass → ℕ
most_in_line w first before = most_before w.shape (mapped_after w (first ∷ before)) (pages_wanted first.wants)

-- the pages of a batch
abbrev pub batch_pages : List Planned → List ℕ
batch_pages batch = map (λ e. e.page) batch

-- a run goes on after its newest pass, which finishes its picture
abbrev pub IsAtPictureEnd : WalkSetup → List WalkPass → Type 0
IsAtPictureEnd w [] = ⊥
IsAtPictureEnd w (p ∷ passes) = WalkGoesOn w.mode w p × IsFinished w p passes

-- the newest picture of a settled run: its later passes, of which the newest finishes it, and its first pass, before which none is of it
pub record IsFinishedPicture (w : WalkSetup) (later : List WalkPass) (first : WalkPass) (before : List WalkPass) : Type 0 where
  pub setup : IsWalkSetup w
  pub settled : w.mode ≡ Settled
  pub run : IsWalkRun w (later ++ first ∷ before)
  pub later_passes : AllByRecursion (λ p. p.picture ≡ first.picture) later
  pub first_pass : passes_of first.picture before ≡ []
  pub end : IsAtPictureEnd w (later ++ first ∷ before)

-- a settled run has a finished picture with a number: the run up to its last pass, and these are its passes in the whole run
pub record HasPicture (w : WalkSetup) (passes : List WalkPass) (picture : ℕ) : Type 0 where
  pub later : List WalkPass
  pub first : WalkPass
  pub before : List WalkPass
  pub finished : IsFinishedPicture w later first before
  pub number : first.picture ≡ picture
  pub passes_are : passes_of picture passes ≡ passes_of first.picture (later ++ first ∷ before)
