-- A walk as the parts of its code are given it.
use Rattle.std.specs.Prelude.{◌≡◌, ℕ, ◌≤◌, Option, List, length}
use Rattle.vt_pages.specs.Limits.{most_pictures}
use Rattle.vt_ppm.specs.Depths.{IsDepth}
use Rattle.vt_pages.specs.Pages.{IsWithinLimits, pages_of, pinned_of}
use Rattle.vt_walk_decisions.specs.Scenes.{Scene, scene_of}
use Rattle.vt_walk_decisions.specs.Drawings.{Drawing}
use Rattle.vt_walk_decisions.specs.declared.input.WalkInput.{WalkInput}
use Rattle.vt_walk.specs.Fits.{WalkSetup}
use Rattle.vt_walk.specs.Walks.{WalkGiven, given_by, walk_setup, names_of, AreSettings}

-- what its pictures are of
abbrev pub input_scene : WalkInput → Scene
input_scene t = scene_of t.geometry.now t.depth t.path.now

-- the walk of an input, by how a machine draws and the store's bytes, where they are known
abbrev pub given_of : Drawing → WalkInput → Option (List ℕ) → WalkGiven
given_of draws t known = given_by draws (input_scene t) t.settings t.mode known (names_of t.names)

-- the numbers of the walk of an input
abbrev pub setup_of_input : Drawing → WalkInput → WalkSetup
setup_of_input draws t = walk_setup draws (input_scene t) t.settings t.mode

-- its numbers are within their limits
pub record IsWalkInput (t : WalkInput) : Type 0 where
  pub limits : IsWithinLimits t.geometry.now
  pub depth : IsDepth t.depth
  pub settings : AreSettings t.geometry.now t.settings
  pub pages : t.pinned ≡ pinned_of t.geometry.now t.settings.pinned
  pub some : 1 ≤ t.pinned
  pub enough : t.pinned ≤ pages_of t.geometry.now
  pub pictures : length t.path.now.cameras ≤ most_pictures
