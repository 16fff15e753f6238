-- A walk that goes on after a pass, or does not.
use Rattle.std.proofs.Common.{◌≡◌, ℕ, ◌-◌, ◌<◌, ◌≤◌, List, length, Option, arith}
use Rattle.vt_pages.specs.Pages.{IsWithinLimits, pinned_of}
use Rattle.vt_journal.specs.Changes.{Table}
use Rattle.vt_tiles.specs.StoreViews.{IsStore}
use Rattle.vt_plan.specs.Views.{RecencyView}
use Rattle.vt_walk_decisions.specs.Scenes.{Scene}
use Rattle.vt_walk_decisions.specs.Drawings.{Drawing}
use Rattle.vt_walk_decisions.specs.Machines.{MachineState}
use Rattle.vt_walk_decisions.specs.Passes.{MapsNeeded}
use Rattle.vt_walk_decisions.specs.declared.error.WalkError.{WalkError}
use Rattle.vt_walk_decisions.specs.declared.error.WalkError.TheVariants as walk_error
use Rattle.vt_walk_decisions.specs.declared.mode.Mode.TheVariants.{Settled}
use Rattle.vt_walk_decisions.specs.declared.input.WalkInput.{WalkInput}
use Rattle.vt_walk_decisions.specs.declared.steps.Passed.{Passed}
use Rattle.vt_walk_decisions.specs.Judging.{IsStoppedBy, MayGoOn}
use Rattle.vt_walk.specs.DrawnBy.{PictureDrawn}
use Rattle.vt_walk.specs.Walks.{names_of}
use Rattle.vt_walk.specs.States.{WalkState}
use Rattle.vt_walk.specs.WalkInputs.{IsWalkInput, given_of, input_scene}
use Rattle.vt_walk.specs.WalkSteps.{StandsAfter, LeftByRefusal}
use Rattle.vt_walk.proofs.Ending.{no_room, tile_lost}

-- a settled picture has room
pub room_left : (t : WalkInput) (p : Passed) → IsWalkInput t → MayGoOn t p → t.mode ≡ Settled → p.next_plan.needed ≤ t.settings.frames - pinned_of t.geometry.now t.settings.pinned
room_left t p h goes_on settled = let fits = goes_on.fits settled in let pages = h.pages in omega (arith, fits, pages)

-- the walk stops after a pass, for its cause
pub stopped : (draws : Drawing)
    (drawn : PictureDrawn)
    (law : (scene : Scene) (b : List ℕ) (m : Table) (i x y : ℕ) → IsWithinLimits scene.shape → IsStore b scene.shape scene.depth
    → i < length scene.path.cameras → x < scene.path.width → y < scene.path.height → MapsNeeded scene.shape m (draws.needs scene i)
    → draws.shows scene b m i x y ≡ draws.whole scene b i x y)
    (t : WalkInput) (known : Option (List ℕ)) (number : ℕ) (p : Passed) (first was : WalkState) (m : MachineState) (v : RecencyView) → IsWalkInput t
    → StandsAfter drawn (given_of draws t known) number p first was m v → (e : WalkError) → IsStoppedBy t p e
    → LeftByRefusal drawn (given_of draws t known) first was e
stopped draws drawn law t known number p first was m v input s (walk_error.TooFewFrames frames needed) is = absurd is
stopped draws drawn law t known number p first was m v input s (walk_error.DoesNotFit picture wanted room) is =
    no_room draws drawn law (input_scene t) t.settings t.mode known (names_of t.names) number p first m v was s is.settled picture wanted room
    is.picture_is is.wanted_are (let r = is.room_is in let pages = input.pages in omega (arith, r, pages)) is.unfit
stopped draws drawn law t known number p first was m v input s walk_error.Failed is =
    tile_lost draws drawn law (input_scene t) t.settings t.mode known (names_of t.names) number p first m v was s is.0 is.1
stopped draws drawn law t known number p first was m v input s walk_error.NoMemory is = absurd is
