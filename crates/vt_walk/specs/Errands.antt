-- A walk that goes on as the errand of a crew.
use Rattle.std.specs.Prelude.{◌≡◌, ◌≤◌, Result, IfOk}
use Rattle.vt_walk_decisions.specs.declared.error.WalkError.{WalkError}
use Rattle.vt_walk.specs.declared.walk_steps.Walked.{Walked}
use Rattle.vt_walk.specs.declared.errand.WalkErrand.{WalkErrand}
use Rattle.vt_walk.specs.WalkInputs.{setup_of_input, IsWalkInput}
use Rattle.vt_walk.specs.WalkSteps.{WalkStart}
use Rattle.vt_walk.specs.Moments.{Moment, KeepsWalk}
use Rattle.vt_walk.specs.Goings.{WalkBy, AtFirst, WalksOn}
use Rattle.vt_walk.specs.Counts.{HasCounts}

-- a walk has begun, and its machine can go on
pub record MayWalkOn (w : WalkBy) (is_idle : Type 0) (before : Moment) : Type 0 where
  pub input : IsWalkInput w.input
  pub enough_frames : w.input.pinned ≤ w.input.settings.frames
  pub idle : is_idle
  pub stands : (b : WalkStart) × AtFirst w b before

-- however it began, it was walked on to this answer, with its counts, and what no step takes back was kept
pub record HasWalkedOn (w : WalkBy) (before after : Moment) (result : Result Walked WalkError) : Type 0 where
  pub walked : WalksOn w before after result
  pub counted : IfOk result (HasCounts (setup_of_input w.draws w.input))
  pub kept : KeepsWalk before after

-- an errand holds the same folder, machine, recency and sink, whatever is in them
pub record AreSamePlaces {M D O G : Type 0} (before after : WalkErrand M D O G) : Type 0 where
  pub folder : after.folder.ghost_name ≡ before.folder.ghost_name
  pub machine : after.machine.ghost_name ≡ before.machine.ghost_name
  pub recency : after.recency.ghost_name ≡ before.recency.ghost_name
  pub out : after.out.ghost_name ≡ before.out.ghost_name
