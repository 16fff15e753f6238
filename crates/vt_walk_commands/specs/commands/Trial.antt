-- The command `trial`: a settled walk in memory, over a texture and a path that are made from a number.
use Rattle.std.specs.Prelude.{◌≡◌, ◌⊎◌, ℕ, ◌+◌, ◌-◌, ◌*◌, ◌<◌, ◌==◌, not, min, List, [], ◌++◌, take, length, slice_index, codes, option_map, sum_by, Option, Some, None, Result, Ok, Err}
use Rattle.std.specs.List.{range_with_len, count_by}
use Rattle.vt_outside.specs.Counts.{Rose}
use Rattle.vt_outside.specs.Files.{Files, gained}
use Rattle.vt_command_words.specs.TextNumbers.{number_spelling}
use Rattle.vt_ppm.specs.Image.{ImageView}
use Rattle.vt_ppm.specs.Picture.{picture_bytes}
use Rattle.vt_mip.specs.Chains.{ChainView}
use Rattle.vt_camera.specs.Paths.{PathView}
use Rattle.vt_camera.specs.PathText.{IsPathText}
use Rattle.vt_pages.specs.Shape.{Shape, shape_of}
use Rattle.vt_plain.specs.Plain.{plain_samples}
use Rattle.vt_pictures.specs.Scenes.{scene_of}
use Rattle.vt_walk.specs.Nearest.{nearest}
use Rattle.vt_walk.specs.WalkDecisionsTypes.settings.Settings.{Settings}
use Rattle.vt_walk.specs.WalkDecisionsTypes.mode.Mode.TheVariants.{Settled}
use Rattle.vt_walk.specs.WalkDecisionsTypes.error.WalkError.{WalkError}
use Rattle.vt_walk.specs.WalkDecisionsTypes.error.WalkError.TheVariants as walks
use Rattle.vt_walk.specs.declared.walk_steps.Walked.{Walked}
use Rattle.vt_walk.specs.Fits.{WalkSetup, PictureFits, DoesNotFit as IsTooLarge, room_beside_pinned}
use Rattle.vt_walk.specs.Walks.{walk_setup}
use Rattle.vt_walk.specs.Counts.{HasCounts}
use Rattle.vt_command_words.specs.Trial.{TrialText}
use Rattle.vt_pictures.specs.Names.{picture_name}
use Rattle.vt_command_inputs.specs.Effects.{FolderState, SinkEffect, CallEffect, IsWithoutEffect}
use Rattle.vt_command_inputs.specs.Inputs.{InputContent}
use Rattle.vt_command_inputs.specs.CommandSpecs.{CommandSpec, Conflict, FlawedBeside, ManyTexels, FewFrames, LargePicture}
use Rattle.vt_store_commands.specs.commands.Gen.{made_rows}
use Rattle.vt_walk_commands.specs.declared.commands.trial.Tried.{Tried}
use Rattle.vt_command_inputs.specs.declared.refusal.Refusal.{Refusal}
use Rattle.vt_command_inputs.specs.declared.refusal.Refusal.TheVariants.{NoMemory, Usage, Fault, Flawed, TooFewFrames, DoesNotFit}

-- the side of the texture of a trial
abbrev pub trial_side : ℕ
trial_side = 2048

-- a texture of these samples
abbrev pub trial_image : List ℕ → ImageView
trial_image samples = record { depth = 1; width = trial_side; height = trial_side; samples = samples }

-- the texture of a number: that of `gen`
abbrev pub trial_texture : ℕ → ImageView
trial_texture number = trial_image (made_rows number trial_side trial_side)

-- how it is cut into pages
abbrev pub trial_shape : Shape
trial_shape = shape_of trial_side trial_side 64

-- the text of the path of a number: 60 pictures straight over the texture
unfoldable pub trial_path : ℕ → List ℕ
trial_path number =
    codes "size 320 200\nfocal 100\nat " ++ number_spelling (256 * number) ++ codes " 0 204800 16384 0\nto 59 "
    ++ number_spelling (256 * number + 262144) ++ codes " 0 204800 16384 0\n"

-- 64 frames, of which the last level's page has one, and the crew
abbrev pub trial_settings : Settings
trial_settings = record { frames = 64; pinned = 1; crew = record { samplers = 4; loaders = 3; batch = 16 } }

-- the settled walk over a path
abbrev pub trial_setup : PathView → WalkSetup
trial_setup path = walk_setup nearest (scene_of trial_shape 1 path) trial_settings Settled

-- the chain of the texture of a number
abbrev pub IsOfTrial : ℕ → ChainView → Type 0
IsOfTrial number chain = chain ≡ record { base = trial_texture number; tile = 64 }

-- the whole settled run over the path of a number has these counts
pub record IsTrial (number : ℕ) (walked : Walked) : Type 0 where
  pub path : PathView
  pub is : IsPathText (trial_path number) path
  pub counts : HasCounts (trial_setup path) walked

-- the line of a trial: its number, those of passes and of reads, and how many bytes differ from the plain pictures
unfoldable pub trial_line : ℕ → Walked → ℕ → List ℕ
trial_line number walked differ =
    codes "trial " ++ number_spelling number ++ codes " pictures 60 passes " ++ number_spelling walked.passes ++ codes " reads "
    ++ number_spelling walked.reads ++ codes " differ " ++ number_spelling differ ++ codes "\n"

-- this is the first picture of a settled walk that does not fit
pub record IsFirstUnfit (w : WalkSetup) (picture wanted room : ℕ) : Type 0 where
  pub of_path : picture < w.pictures
  pub room_is : room ≡ room_beside_pinned w
  pub unfit : IsTooLarge w picture wanted
  pub earlier : (i : ℕ) → i < picture → PictureFits w i

-- this is the first picture of the path of a number that does not fit
pub record IsUnfitPicture (number picture wanted room : ℕ) : Type 0 where
  pub path : PathView
  pub is : IsPathText (trial_path number) path
  pub first : IsFirstUnfit (trial_setup path) picture wanted room

-- this stands in the way of a trial
abbrev pub ConflictsInTrial : TrialText → List InputContent → Conflict → Type 0
ConflictsInTrial words contents (FlawedBeside name flaw) = ⊥
ConflictsInTrial words contents ManyTexels = ⊥
ConflictsInTrial words contents (FewFrames frames needed) = ⊥
ConflictsInTrial words contents (LargePicture picture wanted room) = IsUnfitPicture words.number picture wanted room

-- the answer of the walk of a trial: its folder and its sink have no failing calls
abbrev pub answer_of_trial : Result Walked WalkError → Result Walked Refusal
answer_of_trial (Ok walked) = Ok walked
answer_of_trial (Err (walks.DoesNotFit picture wanted room)) = Err (DoesNotFit picture wanted room)
answer_of_trial (Err (walks.TooFewFrames frames needed)) = Err NoMemory
answer_of_trial (Err walks.Failed) = Err NoMemory
answer_of_trial (Err walks.NoMemory) = Err NoMemory

-- why the walk of a trial was refused; nothing outside the program can stand in its way
abbrev pub IsWalkRefusal : PathView → Refusal → Type 0
IsWalkRefusal path NoMemory = Unit {0}
IsWalkRefusal path Usage = ⊥
IsWalkRefusal path Fault = ⊥
IsWalkRefusal path (Flawed name flaw) = ⊥
IsWalkRefusal path (TooFewFrames frames needed) = ⊥
IsWalkRefusal path (DoesNotFit picture wanted room) = IsFirstUnfit (trial_setup path) picture wanted room

-- the walk over a path took so much, or was refused
abbrev pub WalksOver : PathView → Result Walked Refusal → Type 0
WalksOver path (Ok walked) = HasCounts (trial_setup path) walked
WalksOver path (Err refusal) = IsWalkRefusal path refusal

-- why a trial was refused before its line was put
abbrev pub IsTrialRefusal : ℕ → Refusal → Type 0
IsTrialRefusal number refusal = (path : PathView) × IsPathText (trial_path number) path × IsWalkRefusal path refusal

-- a walk was compared with the plain pictures: no byte differs
abbrev pub Compares : Walked → Result Tried Refusal → Type 0
Compares walked (Ok tried) = (tried.walked ≡ walked) × (tried.differ ≡ 0)
Compares walked (Err refusal) = refusal ≡ NoMemory

-- a number was tried out
abbrev pub TriesOut : ℕ → Result Tried Refusal → Type 0
TriesOut number (Ok tried) = IsTrial number tried.walked × (tried.differ ≡ 0)
TriesOut number (Err refusal) = (refusal ≡ NoMemory) ⊎ IsTrialRefusal number refusal

-- the folder is as before, and the output gained the line, in which no byte differs
pub record HasTried (words : TrialText) (contents : List InputContent) (c : CallEffect) : Type 0 where
  pub walked : Walked
  pub is : IsTrial words.number walked
  pub files : c.folder.after.files ≡ c.folder.before.files
  pub held : c.out.after.held ≡ option_map (gained (trial_line words.number walked 0)) c.out.before.held

-- the folder is as before, and the output gained a prefix of the line
pub record HasTriedInPart (words : TrialText) (contents : List InputContent) (c : CallEffect) : Type 0 where
  pub walked : Walked
  pub is : IsTrial words.number walked
  pub files : c.folder.after.files ≡ c.folder.before.files
  pub count : ℕ
  pub held : c.out.after.held ≡ option_map (gained (take count (trial_line words.number walked 0))) c.out.before.held

-- `trial` reads nothing and leaves the folder alone; only the output can fail
abbrev pub trial_spec : TrialText → CommandSpec
trial_spec words = record {
  inputs = [];
  asks = λ c. c.folder.after ≡ c.folder.before;
  conflicts = ConflictsInTrial words;
  done = HasTried words;
  stopped = HasTriedInPart words;
  unfit = λ contents picture c. IsWithoutEffect c;
  failed = λ c. Rose c.out.before.faults c.out.after.faults;
}

-- an output before and after, with a folder of which nothing was asked
abbrev pub beside : FolderState → SinkEffect → CallEffect
beside folder out = record { folder = record { before = folder; after = folder }; out = out }

-- at how many of the first n places two texts have other bytes
unfoldable pub other_bytes : List ℕ → List ℕ → ℕ → ℕ
other_bytes a b n = count_by (λ i. not (slice_index a i == slice_index b i)) (range_with_len 0 n)

-- how many bytes of two texts are other, place by place; what one has more counts too
abbrev pub differing : List ℕ → List ℕ → ℕ
differing a b = length a - length b + (length b - length a) + other_bytes a b (min (length a) (length b))

-- the bytes of the file of a plain picture
abbrev pub plain_file : ChainView → PathView → ℕ → List ℕ
plain_file chain path picture = picture_bytes 1 path.width path.height (plain_samples chain.base chain.tile path picture)

-- how many bytes of what a name holds are other than those of a picture; all of these, where the name is missing
abbrev pub differing_from : Option (List ℕ) → List ℕ → ℕ
differing_from None plain = length plain
differing_from (Some drawn) plain = differing drawn plain

-- how many bytes of a picture in a folder are other than those of the plain picture
abbrev pub differing_in : Files → ChainView → PathView → ℕ → ℕ
differing_in files chain path picture = differing_from (files (picture_name (codes "picture") picture)) (plain_file chain path picture)

-- how many bytes of the first so many pictures are
abbrev pub differing_together : Files → ChainView → PathView → ℕ → ℕ
differing_together files chain path pictures = sum_by (differing_in files chain path) (range_with_len 0 pictures)
