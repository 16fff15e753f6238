-- Whether a walk goes on after a pass.
use Rattle.std.specs.Prelude.{◌≡◌, ℕ, ◌+◌, ◌-◌, ◌<◌, ◌≤◌, Bool, IsTrue, List, [], length, Result, Ok, Err}
use Rattle.vt_machine.specs.PlanTypes.batches.Planned.{Planned}
use Rattle.vt_walk_decisions.specs.declared.error.WalkError.{WalkError}
use Rattle.vt_walk_decisions.specs.declared.error.WalkError.TheVariants.{TooFewFrames, DoesNotFit, Failed, NoMemory}
use Rattle.vt_walk_decisions.specs.declared.mode.Mode.{Mode}
use Rattle.vt_walk_decisions.specs.declared.mode.Mode.TheVariants.{Live, Settled}
use Rattle.vt_walk_decisions.specs.declared.input.WalkInput.{WalkInput}
use Rattle.vt_walk_decisions.specs.declared.steps.Passed.{Passed}

-- how many frames are not those of pinned pages
abbrev pub input_room : WalkInput → ℕ
input_room t = t.settings.frames - t.pinned

-- a walk may go on after a pass: settled only where nothing was lost and the picture fits
pub record MayGoOn (t : WalkInput) (p : Passed) : Type 0 where
  pub none_lost : t.mode ≡ Settled → p.lost ≡ 0
  pub fits : t.mode ≡ Settled → p.next_plan.needed ≤ input_room t

-- a settled walk's picture needs more frames than there are
pub record IsUnfit (t : WalkInput) (p : Passed) (picture wanted room : ℕ) : Type 0 where
  pub settled : t.mode ≡ Settled
  pub none_lost : p.lost ≡ 0
  pub picture_is : picture ≡ p.picture
  pub wanted_are : wanted ≡ p.next_plan.needed
  pub room_is : room ≡ input_room t
  pub unfit : room < wanted

-- why a walk does not go on after a pass
abbrev pub IsStoppedBy : WalkInput → Passed → WalkError → Type 0
IsStoppedBy t p (TooFewFrames frames needed) = ⊥
IsStoppedBy t p (DoesNotFit picture wanted room) = IsUnfit t p picture wanted room
IsStoppedBy t p Failed = (t.mode ≡ Settled) × (1 ≤ p.lost)
IsStoppedBy t p NoMemory = ⊥

-- a pass is judged: the walk may go on, or does not for a cause
abbrev pub Judges : {T : Type 0} → WalkInput → Passed → Result T WalkError → Type 0
Judges t p (Ok _) = MayGoOn t p
Judges t p (Err error) = IsStoppedBy t p error

-- a pass has finished its picture
abbrev pub IsEnd : Mode → Bool → List Planned → Type 0
IsEnd Live loads_nothing plan = Unit {0}
IsEnd Settled loads_nothing plan = IsTrue loads_nothing × (plan ≡ [])

-- a pass has finished its picture, and the path has a next one
pub record IsFollowed (t : WalkInput) (p : Passed) : Type 0 where
  pub ends : IsEnd t.mode p.loads_nothing p.next_plan.plan.elements
  pub more : p.picture + 1 < length t.path.now.cameras
