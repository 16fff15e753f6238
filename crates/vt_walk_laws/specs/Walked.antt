-- A walk whose journal is replayed.
use Rattle.std.specs.Prelude.{◌≡◌, ℕ, List, [], ◌∷◌, ◌++◌, Some, length}
use Rattle.vt_replay.specs.Names.{picture_name}
use Rattle.vt_machine.specs.Format.{stored}
use Rattle.vt_replay.specs.Expectations.{ExpectedFile}
use Rattle.vt_walk.specs.Walks.{WalkGiven}
use Rattle.vt_replay.specs.Trying.{Under}

-- a walk is of a store of these known bytes: its numbers are those of its scene, and each pixel is what a filter shows of the store under a
-- page table (van Waveren 2012)
pub record IsOfStore (under : Under) (g : WalkGiven) (b : List ℕ) : Type 0 where
  pub shape : g.setup.shape ≡ g.scene.shape
  pub height : g.setup.height ≡ g.scene.path.height
  pub pictures : g.setup.pictures ≡ length g.scene.path.cameras
  pub known : g.known ≡ Some b
  pub shows : g.draws.shows g.scene b ≡ under (stored b) g.scene

-- pictures, the newest first in the list, as files in the order of their numbers, each under its name
abbrev pub named_pictures : List ℕ → List (List ℕ) → List ExpectedFile
named_pictures prefix [] = []
named_pictures prefix (bytes ∷ pictures) =
    named_pictures prefix pictures ++ record { name = picture_name prefix (length pictures); bytes = bytes } ∷ []
