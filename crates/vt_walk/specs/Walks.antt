-- What a walk is given: its numbers, scene, crew, store and names, and how its machine draws.
use Rattle.std.specs.Prelude.{ℕ, ◌≤◌, Bool, true, false, Option, List, length}
use Rattle.vt_outside.specs.declared.outside.File.{Ghosts as FileMeanings}
use Rattle.vt_pages.specs.Shape.{Shape}
use Rattle.vt_pages.specs.Pages.{pinned_of}
use Rattle.vt_camera.specs.Paths.{PathView}
use Rattle.vt_tiles.specs.StoreViews.{StoreView}
use Rattle.vt_walk_decisions.specs.Scenes.{Scene, scene_of}
use Rattle.vt_walk_decisions.specs.Crews.{IsCrew, AreFrames}
use Rattle.vt_walk_decisions.specs.Drawings.{Drawing}
use Rattle.vt_walk_decisions.specs.Machines.{Setup, setup_of}
use Rattle.vt_walk_decisions.specs.MachineTypes.crew.Crew.{Crew}
use Rattle.vt_walk_decisions.specs.declared.settings.Settings.{Settings}
use Rattle.vt_walk_decisions.specs.declared.settings.Names.{Names}
use Rattle.vt_walk_decisions.specs.declared.mode.Mode.{Mode}
use Rattle.vt_walk_decisions.specs.declared.mode.Mode.TheVariants.{Live, Settled}
use Rattle.vt_walk.specs.Fits.{WalkSetup}

-- the names of a walk: its store's, what its pictures' begin with, and its journal's
pub record WalkNames : Type 0 where
  pub store : List ℕ
  pub prefix : List ℕ
  pub journal : List ℕ

-- a walk: its numbers, what its pictures are of, its crew, the bytes of its store, where they are known, its names, and how its machine
-- draws
pub record WalkGiven : Type 0 where
  pub setup : WalkSetup
  pub scene : Scene
  pub crew : Crew
  pub known : Option (List ℕ)
  pub names : WalkNames
  pub draws : Drawing

-- what the machine of a walk is made for
abbrev pub setup_of_walk : WalkGiven → Setup
setup_of_walk g = setup_of g.scene.shape g.scene.depth g.scene.path g.setup.frames g.crew g.known

-- the names as texts
abbrev pub names_of : Names → WalkNames
names_of names = record { store = names.store.now; prefix = names.prefix.now; journal = names.journal.now }

-- settled where it is so, and else live
abbrev pub mode_of : Bool → Mode
mode_of true = Settled
mode_of false = Live

-- the numbers of a walk: the pages of the last so many levels are pinned (Mayer 2010)
abbrev pub walk_setup : Drawing → Scene → Settings → Mode → WalkSetup
walk_setup draws scene settings mode = record {
  mode = mode;
  shape = scene.shape;
  frames = settings.frames;
  pinned = pinned_of scene.shape settings.pinned;
  most = settings.crew.batch;
  samplers = settings.crew.samplers;
  dealt = draws.dealt;
  height = scene.path.height;
  pictures = length scene.path.cameras;
  needs = draws.needs scene;
}

-- a walk by how a machine draws, a scene, settings, a mode, the store's bytes, where they are known, and names
abbrev pub given_by : Drawing → Scene → Settings → Mode → Option (List ℕ) → WalkNames → WalkGiven
given_by draws scene settings mode known names = record {
  setup = walk_setup draws scene settings mode;
  scene = scene;
  crew = settings.crew;
  known = known;
  names = names;
  draws = draws;
}

-- the walk that a call is to make, by how a machine draws: over a store, of a path, under names, with settings, and settled or live
abbrev pub given_to : {F : Type 0} → Drawing → FileMeanings F → StoreView F → PathView → Names → Settings → Bool → WalkGiven
given_to draws f store path names settings settled =
    given_by draws (scene_of store.shape store.depth path) settings (mode_of settled) (f.bytes store.file) (names_of names)

-- the settings are within their limits
pub record AreSettings (s : Shape) (settings : Settings) : Type 0 where
  pub frames : AreFrames s settings.frames
  pub crew : IsCrew settings.crew
  pub some_level : 1 ≤ settings.pinned
