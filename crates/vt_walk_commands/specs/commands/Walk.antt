-- The command `walk`: the pictures of a path, drawn while the pages that they want are streamed from a store.
use Rattle.std.specs.Prelude.{◌≡◌, ◌⊎◌, ℕ, ◌+◌, ◌*◌, ◌<◌, ◌≤◌, List, [], ◌∷◌, ◌++◌, length, Option, IsSome, option_map, Result, Ok, Err}
use Rattle.vt_pages.specs.Limits.{most_frame_texels}
use Rattle.vt_outside.specs.Counts.{Rose, RoseBy, added}
use Rattle.vt_outside.specs.Files.{Files, Asked, bytes_at}
use Rattle.vt_pages.specs.Shape.{Shape}
use Rattle.vt_tiles.specs.Pages.{pinned_of}
use Rattle.vt_camera.specs.Paths.{PathView}
use Rattle.vt_pictures.specs.Scenes.{scene_of}
use Rattle.vt_command_inputs.specs.Effects.{CallEffect}
use Rattle.vt_walk.specs.WalkDecisionsTypes.settings.Settings.{Settings}
use Rattle.vt_walk.specs.WalkDecisionsTypes.mode.Mode.TheVariants.{Settled}
use Rattle.vt_walk.specs.WalkDecisionsTypes.error.WalkError.{WalkError}
use Rattle.vt_walk.specs.WalkDecisionsTypes.error.WalkError.TheVariants as walks
use Rattle.vt_walk.specs.Fits.{WalkSetup, PictureFits, DoesNotFit as IsTooLarge, room_beside_pinned}
use Rattle.vt_walk.specs.Walks.{WalkGiven, WalkNames, walk_setup, given_by, mode_of}
use Rattle.vt_walk.specs.Folders.{IsApart}
use Rattle.vt_walk.specs.States.{WalkState}
use Rattle.vt_walk.specs.Standing.{Finished}
use Rattle.vt_walk.specs.Leaving.{Left}
use Rattle.vt_walk.specs.Causes.{HasUnfit, HasLost, reads_lost}
use Rattle.vt_walk.specs.Closing.{AreOtherNamesAsBefore}
use Rattle.vt_command_words.specs.Walk.{WalkText}
use Rattle.vt_walk_commands.specs.Machines.{MachineKind}
use Rattle.vt_command_inputs.specs.Inputs.{Input, InputContent, PathInput, StoreInput, PathContent, StoreContent, header_places}
use Rattle.vt_command_inputs.specs.Causes.{AreHeld, IsAskedOrNot, AsksSome}
use Rattle.vt_command_inputs.specs.CommandSpecs.{CommandSpec, Conflict, EndsBy, FlawedBeside, ManyTexels, FewFrames, LargePicture}
use Rattle.vt_command_inputs.specs.declared.refusal.Refusal.{Refusal}
use Rattle.vt_command_inputs.specs.declared.refusal.Refusal.TheVariants.{NoMemory, Fault, TooFewFrames, DoesNotFit}

-- what a walk is of: a path, and a store by its header
pub record WalkOf : Type 0 where
  pub path : PathView
  pub shape : Shape
  pub depth : ℕ

-- the inputs hold these
abbrev pub contents_of : WalkOf → List InputContent
contents_of of = PathContent of.path ∷ StoreContent of.shape of.depth ∷ []

-- the numbers that the words give
abbrev pub settings_of : WalkText → Settings
settings_of words = record {
  frames = words.frames;
  pinned = words.pinned;
  crew = record { samplers = words.samplers; loaders = words.loaders; batch = words.batch };
}

-- the names that the words give
abbrev pub walk_names : WalkText → WalkNames
walk_names words = record { store = words.store; prefix = words.prefix; journal = words.journal }

-- the walk that the words ask for, over the bytes that the folder tells of the store
abbrev pub walk_given : MachineKind → WalkText → WalkOf → Option Files → WalkGiven
walk_given m words of files =
    given_by m.draws (scene_of of.shape of.depth of.path) (settings_of words) (mode_of words.settled)
    (bytes_at files words.store) (walk_names words)

-- what was there before a walk once its store was opened: of the store its header was asked, after these places; the count of faults has
-- reached at most the end of its type
abbrev pub walk_first : WalkText → Option Asked → CallEffect → WalkState
walk_first words read c = record {
  files = c.folder.before.files;
  held = c.out.before.held;
  faults = added c.folder.before.faults 0;
  out_faults = c.out.before.faults;
  asked = option_map (λ (asked : Asked). asked words.store ++ header_places) read;
}

-- what is there at the end
abbrev pub walk_last : WalkText → CallEffect → WalkState
walk_last words c = record {
  files = c.folder.after.files;
  held = c.out.after.held;
  faults = c.folder.after.faults;
  out_faults = c.out.after.faults;
  asked = option_map (λ (asked : Asked). asked words.store) c.folder.after.asked;
}

-- the journal's name is no picture's; the path was asked, and then the walk was made whole: what it leaves lies between the opening of its store and the end
pub record HasWalked (m : MachineKind) (words : WalkText) (contents : List InputContent) (c : CallEffect) : Type 0 where
  pub of : WalkOf
  pub are : contents ≡ contents_of of
  pub read : Option Asked
  pub path : IsAskedOrNot c.folder.before.files (PathInput words.path) c.folder.before.asked read
  pub apart : IsApart (walk_names words)
  pub finished : Finished m.drawn (walk_given m words of c.folder.before.files) (walk_first words read c) (walk_last words c)

-- the journal's name is no picture's; the path was asked, and then the walk was left
pub record HasLeft (m : MachineKind) (words : WalkText) (contents : List InputContent) (c : CallEffect) : Type 0 where
  pub of : WalkOf
  pub are : contents ≡ contents_of of
  pub read : Option Asked
  pub path : IsAskedOrNot c.folder.before.files (PathInput words.path) c.folder.before.asked read
  pub apart : IsApart (walk_names words)
  pub left : Left m.drawn (walk_given m words of c.folder.before.files) (walk_first words read c) (walk_last words c)

-- the journal's name is no picture's; a settled walk was left exactly after the first pass of a picture that does not fit, the first such
pub record HasLeftAtUnfit (m : MachineKind) (words : WalkText) (contents : List InputContent) (picture : ℕ) (c : CallEffect) : Type 0 where
  pub of : WalkOf
  pub are : contents ≡ contents_of of
  pub read : Option Asked
  pub path : IsAskedOrNot c.folder.before.files (PathInput words.path) c.folder.before.asked read
  pub apart : IsApart (walk_names words)
  pub needed : ℕ
  pub room : ℕ
  pub unfit : HasUnfit m.drawn (walk_given m words of c.folder.before.files) picture needed room (walk_first words read c) (walk_last words c)

-- how many texels the frames have together
abbrev pub frame_texels : WalkText → WalkOf → ℕ
frame_texels words of = words.frames * (of.shape.tile * of.shape.tile)

-- how many pages are pinned
abbrev pub walk_pinned : WalkText → WalkOf → ℕ
walk_pinned words of = pinned_of of.shape words.pinned

-- the frames have few enough texels, and there are fewer than the pinned pages
pub record HasFewFrames (words : WalkText) (of : WalkOf) (frames needed : ℕ) : Type 0 where
  pub few_texels : frame_texels words of ≤ most_frame_texels
  pub frames_are : frames ≡ words.frames
  pub needed_are : needed ≡ walk_pinned words of
  pub few : frames < needed

-- the setup of the walk that the words ask for
abbrev pub setup_for : MachineKind → WalkText → WalkOf → WalkSetup
setup_for m words of = walk_setup m.draws (scene_of of.shape of.depth of.path) (settings_of words) (mode_of words.settled)

-- there are frames for the pinned pages, and this is the first picture of a settled walk that does not fit
pub record HasLargePicture (m : MachineKind) (words : WalkText) (of : WalkOf) (picture wanted room : ℕ) : Type 0 where
  pub few_texels : frame_texels words of ≤ most_frame_texels
  pub enough : walk_pinned words of ≤ words.frames
  pub settled : mode_of words.settled ≡ Settled
  pub of_path : picture < length of.path.cameras
  pub room_is : room ≡ room_beside_pinned (setup_for m words of)
  pub unfit : IsTooLarge (setup_for m words of) picture wanted
  pub earlier : (i : ℕ) → i < picture → PictureFits (setup_for m words of) i

-- this stands in the way of a walk
abbrev pub StandsInWay : MachineKind → WalkText → WalkOf → Conflict → Type 0
StandsInWay m words of (FlawedBeside name flaw) = ⊥
StandsInWay m words of ManyTexels = most_frame_texels < frame_texels words of
StandsInWay m words of (FewFrames frames needed) = HasFewFrames words of frames needed
StandsInWay m words of (LargePicture picture wanted room) = HasLargePicture m words of picture wanted room

-- this stands in the way of a walk over what the inputs hold
pub record ConflictsInWalk (m : MachineKind) (words : WalkText) (contents : List InputContent) (conflict : Conflict) : Type 0 where
  pub of : WalkOf
  pub are : contents ≡ contents_of of
  pub stands : StandsInWay m words of conflict

-- `walk` reads the path, and opens the store for its header
abbrev pub walk_inputs : WalkText → List Input
walk_inputs words = PathInput words.path ∷ StoreInput words.store ∷ []

-- what is there is what a walk leaves, so that the store was asked for the header and the tiles of its passes; beside it the path was asked
-- and no other name
pub record AsksOfWalk (m : MachineKind) (words : WalkText) (c : CallEffect) : Type 0 where
  pub read : Option Asked
  pub path : IsAskedOrNot c.folder.before.files (PathInput words.path) c.folder.before.asked read
  pub others : AreOtherNamesAsBefore words.store read c.folder.after.asked
  pub contents : List InputContent
  pub held : IsSome c.folder.before.files → AreHeld c.folder.before.files (walk_inputs words) contents
  pub stands : HasWalked m words contents c ⊎ HasLeft m words contents c

-- no more than the path and the header was asked, or what a walk asks
abbrev pub WalkAsks : MachineKind → WalkText → CallEffect → Type 0
WalkAsks m words c = AsksSome (walk_inputs words) c.folder ⊎ AsksOfWalk m words c

-- the folder's count rose, and no tile was asked
pub record FailedBefore (words : WalkText) (c : CallEffect) : Type 0 where
  pub asks : AsksSome (walk_inputs words) c.folder
  pub rose : Rose c.folder.before.faults c.folder.after.faults

-- the folder's count rose by more than the tiles of the unpinned pages of what the inputs hold that were lost
pub record FailedInWalk (m : MachineKind) (words : WalkText) (c : CallEffect) : Type 0 where
  pub of : WalkOf
  pub held : IsSome c.folder.before.files → AreHeld c.folder.before.files (walk_inputs words) (contents_of of)
  pub read : Option Asked
  pub path : IsAskedOrNot c.folder.before.files (PathInput words.path) c.folder.before.asked read
  pub rose : let given = walk_given m words of c.folder.before.files in
      RoseBy (reads_lost given (walk_first words read c).asked (walk_last words c).asked + 1) c.folder.before.faults c.folder.after.faults

-- the walk is settled, and what it left ends with a pass that lost a tile, which the journal tells
pub record LostInWalk (m : MachineKind) (words : WalkText) (c : CallEffect) : Type 0 where
  pub of : WalkOf
  pub held : IsSome c.folder.before.files → AreHeld c.folder.before.files (walk_inputs words) (contents_of of)
  pub read : Option Asked
  pub path : IsAskedOrNot c.folder.before.files (PathInput words.path) c.folder.before.asked read
  pub lost : HasLost m.drawn (walk_given m words of c.folder.before.files) (walk_first words read c) (walk_last words c)
  pub rose : Rose c.folder.before.faults c.folder.after.faults

-- a call failed that ends a walk
abbrev pub WalkFailed : MachineKind → WalkText → CallEffect → Type 0
WalkFailed m words c = Rose c.out.before.faults c.out.after.faults ⊎ (FailedBefore words c ⊎ (FailedInWalk m words c ⊎ LostInWalk m words c))

-- the specification of `walk` by a machine
abbrev pub walk_spec : MachineKind → WalkText → CommandSpec
walk_spec m words = record {
  inputs = walk_inputs words;
  asks = WalkAsks m words;
  conflicts = ConflictsInWalk m words;
  done = HasWalked m words;
  stopped = HasLeft m words;
  unfit = HasLeftAtUnfit m words;
  failed = WalkFailed m words;
}

-- the refusal of a walk
abbrev pub refusal_of_walk : WalkError → Refusal
refusal_of_walk (walks.TooFewFrames frames needed) = TooFewFrames frames needed
refusal_of_walk (walks.DoesNotFit picture wanted room) = DoesNotFit picture wanted room
refusal_of_walk walks.Failed = Fault
refusal_of_walk walks.NoMemory = NoMemory

-- the answer of a walk
abbrev pub IsWalkAnswer : Result (Unit {0}) WalkError → Result (Unit {0}) Refusal → Type 0
IsWalkAnswer (Ok u) result = result ≡ Ok u
IsWalkAnswer (Err error) result = result ≡ Err (refusal_of_walk error)

-- what ends as a walk by machines of one kind ends as one by machines of another
abbrev pub WalksAs : MachineKind → MachineKind → Type 0
WalksAs one other = (words : WalkText) (c : CallEffect) (result : Result (Unit {0}) Refusal)
    → EndsBy (walk_spec one words) c result → EndsBy (walk_spec other words) c result
