-- Why a walk was refused.
use Rattle.std.specs.Prelude.{◌≡◌, ◌⊎◌, ℕ, ◌+◌, ◌-◌, ◌<◌, ◌≤◌, List, [], ◌∷◌, length, Option, Some}
use Rattle.vt_outside.specs.Counts.{Rose, RoseBy}
use Rattle.vt_outside.specs.declared.place.Place.{Place}
use Rattle.vt_walk_decisions.specs.declared.error.WalkError.{WalkError}
use Rattle.vt_walk_decisions.specs.declared.error.WalkError.TheVariants.{TooFewFrames, DoesNotFit, Failed, NoMemory}
use Rattle.vt_walk_decisions.specs.declared.mode.Mode.TheVariants.{Settled}
use Rattle.vt_walk_decisions.specs.Outcomes.{lost_count}
use Rattle.vt_walk.specs.DrawnBy.{PictureDrawn}
use Rattle.vt_walk.specs.Fits.{PictureFits, DoesNotFit as IsTooLarge, room_beside_pinned}
use Rattle.vt_walk.specs.Runs.{WalkPass}
use Rattle.vt_walk.specs.Logs.{passes_of}
use Rattle.vt_walk.specs.Walks.{WalkGiven}
use Rattle.vt_walk.specs.States.{WalkState}
use Rattle.vt_walk.specs.Reads.{lost_reads}
use Rattle.vt_walk.specs.Standing.{Stands}
use Rattle.vt_walk.specs.Leaving.{WritesNothing}

-- how many reads of unpinned pages' tiles failed in between, where the places are known
abbrev pub reads_lost : WalkGiven → Option (List Place) → Option (List Place) → ℕ
reads_lost g (Some old) (Some new) =
    lost_reads g.scene.shape g.scene.depth g.setup.pinned new - lost_reads g.scene.shape g.scene.depth g.setup.pinned old
reads_lost g _ _ = 0

-- a call that ends a walk of either mode failed: the sink's count rose, or the folder's did by more than the tiles that were lost
abbrev pub HasBroken : WalkGiven → WalkState → WalkState → Type 0
HasBroken g first now = Rose first.out_faults now.out_faults ⊎ RoseBy (reads_lost g first.asked now.asked + 1) first.faults now.faults

-- a settled walk lost a tile: what is left is the beginning of a run that ends with the pass that lost it, so the journal tells that pass,
-- and nothing else
pub record HasLost (drawn : PictureDrawn) (g : WalkGiven) (first now : WalkState) : Type 0 where
  pub settled : g.setup.mode ≡ Settled
  pub pass : WalkPass
  pub before : List WalkPass
  pub some : 1 ≤ lost_count pass.losses
  pub pictures : List (List ℕ)
  pub stands : Stands drawn g (pass ∷ before) pictures first now
  pub rose : Rose first.faults now.faults

-- a call failed that ends the walk; in a live walk a lost tile is none
abbrev pub HasFailed : PictureDrawn → WalkGiven → WalkState → WalkState → Type 0
HasFailed drawn g first now = HasBroken g first now ⊎ HasLost drawn g first now

-- there are fewer frames than pinned pages, and nothing was written
pub record HasTooFewFrames (g : WalkGiven) (frames needed : ℕ) (first now : WalkState) : Type 0 where
  pub frames_are : frames ≡ g.setup.frames
  pub needed_are : needed ≡ g.setup.pinned
  pub few : frames < needed
  pub none : WritesNothing first now

-- a picture of a settled walk does not fit, and each before it does: what is left is the beginning of a run that ends with the picture's
-- first pass, the pictures before it and their lines, and nothing else
pub record HasUnfit (drawn : PictureDrawn) (g : WalkGiven) (picture needed room : ℕ) (first now : WalkState) : Type 0 where
  pub settled : g.setup.mode ≡ Settled
  pub room_is : room ≡ room_beside_pinned g.setup
  pub unfit : IsTooLarge g.setup picture needed
  pub earlier : (i : ℕ) → i < picture → PictureFits g.setup i
  pub pass : WalkPass
  pub before : List WalkPass
  pub of_picture : pass.picture ≡ picture
  pub first_pass : passes_of picture before ≡ []
  pub pictures : List (List ℕ)
  pub all : length pictures ≡ picture
  pub stands : Stands drawn g (pass ∷ before) pictures first now

-- the cause of each refusal; want of memory is free
abbrev pub IsCausedBy : PictureDrawn → WalkGiven → WalkState → WalkState → WalkError → Type 0
IsCausedBy drawn g first now (TooFewFrames frames needed) = HasTooFewFrames g frames needed first now
IsCausedBy drawn g first now (DoesNotFit picture needed room) = HasUnfit drawn g picture needed room first now
IsCausedBy drawn g first now Failed = HasFailed drawn g first now
IsCausedBy drawn g first now NoMemory = Unit {0}
