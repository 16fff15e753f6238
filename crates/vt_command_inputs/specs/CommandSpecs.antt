-- The specification of a command: what it reads, what may stand in its way, what it leaves, and how it ends.
use Rattle.std.specs.Prelude.{◌≡◌, ◌⊎◌, ℕ, List, length, Result, Ok, Err, IsSome}
use Rattle.vt_text.specs.Places.{bad_input_line}
use Rattle.vt_outside.specs.Effects.{CallEffect, IsWithoutEffect}
use Rattle.vt_command_inputs.specs.Flaws.{flaw_place}
use Rattle.vt_command_inputs.specs.Lines.{frames_line, unfit_line}
use Rattle.vt_command_inputs.specs.Inputs.{Input, InputContent}
use Rattle.vt_command_inputs.specs.Causes.{MissingName, AreHeld, IsFirstCause, AsksInOrder}
use Rattle.vt_outside.specs.Expectations.{Done, Stopped}
use Rattle.vt_command_inputs.specs.Tasks.{Task, HasBadInput, HasRisen}
use Rattle.vt_command_inputs.specs.declared.flaws.Flaw.{Flaw}
use Rattle.vt_command_inputs.specs.declared.refusal.Refusal.{Refusal}
use Rattle.vt_command_inputs.specs.declared.refusal.Refusal.TheVariants.{NoMemory, Usage, Fault, Flawed, TooFewFrames, DoesNotFit}

-- what stands in the way of what all inputs hold together: beside the others the input of a name has a flaw, the frames that the words
-- ask for have too many texels, they are fewer than the pinned pages need, or a picture wants more pages than there is room for
pub data Conflict : Type 0 where
  FlawedBeside : List ℕ → Flaw → Conflict
  ManyTexels : Conflict
  FewFrames : ℕ → ℕ → Conflict
  LargePicture : ℕ → ℕ → ℕ → Conflict

-- the status of a conflict
abbrev pub conflict_status : Conflict → ℕ
conflict_status (FlawedBeside name flaw) = 4
conflict_status ManyTexels = 2
conflict_status (FewFrames frames needed) = 5
conflict_status (LargePicture picture wanted room) = 5

-- its line, by the line of usage
abbrev pub conflict_line : List ℕ → Conflict → List ℕ
conflict_line usage (FlawedBeside name flaw) = bad_input_line name (flaw_place flaw)
conflict_line usage ManyTexels = usage
conflict_line usage (FewFrames frames needed) = frames_line frames needed
conflict_line usage (LargePicture picture wanted room) = unfit_line picture wanted room

-- the inputs in the order in which they are read, and what is asked of them; what stands in the way of what they hold; what is left of a
-- command that is done, of one that was stopped, and where a picture wanted more pages than there is room for; and what counts as a
-- failed call
pub record CommandSpec : Type 1 where
  pub inputs : List Input
  pub asks : CallEffect → Type 0
  pub conflicts : List InputContent → Conflict → Type 0
  pub done : List InputContent → CallEffect → Type 0
  pub stopped : List InputContent → CallEffect → Type 0
  pub unfit : List InputContent → ℕ → CallEffect → Type 0
  pub failed : CallEffect → Type 0

-- a task as a specification: nothing stands in its way but its inputs
abbrev pub task_spec : Task → CommandSpec
task_spec task = record {
  inputs = task.inputs;
  asks = λ c. AsksInOrder task.inputs c.folder;
  conflicts = λ contents conflict. ⊥;
  done = λ contents c. Done (task.expected contents) c;
  stopped = λ contents c. Stopped (task.expected contents) c;
  unfit = λ contents picture c. ⊥;
  failed = HasRisen;
}

-- the inputs are accepted, as far as that is known, nothing stands in the way of what they hold, and what is expected of them is there
pub record DoneBy (spec : CommandSpec) (c : CallEffect) : Type 0 where
  pub contents : List InputContent
  pub count : length contents ≡ length spec.inputs
  pub held : IsSome c.folder.before.files → AreHeld c.folder.before.files spec.inputs contents
  pub free : (conflict : Conflict) → spec.conflicts contents conflict → ⊥
  pub done : spec.done contents c

-- the inputs are accepted, and the command was stopped on the way
pub record StoppedBy (spec : CommandSpec) (c : CallEffect) : Type 0 where
  pub contents : List InputContent
  pub count : length contents ≡ length spec.inputs
  pub held : IsSome c.folder.before.files → AreHeld c.folder.before.files spec.inputs contents
  pub stopped : spec.stopped contents c

-- nothing was written, or the command was stopped on the way
abbrev pub LeftBySpec : CommandSpec → CallEffect → Type 0
LeftBySpec spec c = IsWithoutEffect c ⊎ StoppedBy spec c

-- what is left where a conflict was met
abbrev pub LeavesAtConflict : CommandSpec → List InputContent → Conflict → CallEffect → Type 0
LeavesAtConflict spec contents (FlawedBeside name flaw) c = IsWithoutEffect c
LeavesAtConflict spec contents ManyTexels c = IsWithoutEffect c
LeavesAtConflict spec contents (FewFrames frames needed) c = IsWithoutEffect c
LeavesAtConflict spec contents (LargePicture picture wanted room) c = spec.unfit contents picture c

-- the inputs are accepted, and this stands in the way of what they hold
pub record IsInConflict (spec : CommandSpec) (c : CallEffect) (conflict : Conflict) : Type 0 where
  pub contents : List InputContent
  pub count : length contents ≡ length spec.inputs
  pub held : IsSome c.folder.before.files → AreHeld c.folder.before.files spec.inputs contents
  pub conflicts : spec.conflicts contents conflict
  pub stands : LeavesAtConflict spec contents conflict c

-- a call failed, or a missing name is the first cause
abbrev pub HasFaultBy : CommandSpec → CallEffect → Type 0
HasFaultBy spec c = spec.failed c ⊎ ((name : List ℕ) × IsFirstCause c.folder.before.files spec.inputs (MissingName name))

-- an input is refused, by itself or beside the others
abbrev pub HasBadInputBy : CommandSpec → CallEffect → List ℕ → Flaw → Type 0
HasBadInputBy spec c name flaw = HasBadInput spec.inputs c name flaw ⊎ IsInConflict spec c (FlawedBeside name flaw)

-- why a command was refused
abbrev pub IsRefusalBy : CommandSpec → CallEffect → Refusal → Type 0
IsRefusalBy spec c NoMemory = Unit {0}
IsRefusalBy spec c Usage = IsInConflict spec c ManyTexels
IsRefusalBy spec c Fault = HasFaultBy spec c
IsRefusalBy spec c (Flawed name flaw) = HasBadInputBy spec c name.now flaw
IsRefusalBy spec c (TooFewFrames frames needed) = IsInConflict spec c (FewFrames frames needed)
IsRefusalBy spec c (DoesNotFit picture wanted room) = IsInConflict spec c (LargePicture picture wanted room)

-- how a command ended
abbrev pub ComesToBy : {T : Type 0} → CommandSpec → CallEffect → Result T Refusal → Type 0
ComesToBy spec c (Ok _) = DoneBy spec c
ComesToBy spec c (Err refusal) = LeftBySpec spec c × IsRefusalBy spec c refusal

-- a command asked what it may ask, and ended so
abbrev pub EndsBy : {T : Type 0} → CommandSpec → CallEffect → Result T Refusal → Type 0
EndsBy spec c result = spec.asks c × ComesToBy spec c result

-- it ended as its task says
abbrev pub EndsAs : {T : Type 0} → Task → CallEffect → Result T Refusal → Type 0
EndsAs task c result = EndsBy (task_spec task) c result
