-- What is written of a picture of a run: the replay of its last pass, and in a settled walk the plain picture.
use Rattle.std.specs.Prelude.{◌≡◌, ℕ, IfSome, List, [], ◌∷◌, length, All}
use Rattle.std.specs.List.{concat}
use Rattle.vt_ppm.specs.Picture.{picture_bytes}
use Rattle.vt_walk_decisions.specs.Replays.{IsFull, IsPictureOf}
use Rattle.vt_walk_decisions.specs.declared.mode.Mode.TheVariants.{Settled}
use Rattle.vt_walk_decisions.specs.Machines.{MachineState}
use Rattle.vt_walk.specs.DrawnBy.{PictureDrawn}
use Rattle.vt_walk.specs.Walks.{WalkGiven, setup_of_walk}
use Rattle.vt_walk.specs.Runs.{WalkPass, journal_after}
use Rattle.vt_walk.specs.Shown.{last_rows, run_through, IsRunPicture}

-- the samples are the rows of a machine of the walk as it was after the picture's last pass: its journal is the run's up to there, there is a line
-- for each row, each row is full, and the machine drew it at the version that its line names
pub record AreFinalRows (drawn : PictureDrawn) (g : WalkGiven) (run : List WalkPass) (picture : ℕ) (samples : List ℕ) : Type 0 where
  pub machine : MachineState
  pub setup : machine.setup ≡ setup_of_walk g
  pub journal : machine.journal ≡ journal_after g.setup (run_through run picture)
  pub joined : samples ≡ concat machine.rows
  pub count : length machine.rows ≡ g.scene.path.height
  pub full : All (IsFull g.scene.depth g.scene.path.width) machine.rows
  pub lines : length (last_rows run picture) ≡ g.scene.path.height
  pub drawn_by : drawn machine g.scene.path picture (last_rows run picture)

-- the bytes are those of a picture of a run (the Netpbm manual's P6 page): it is the replay of its last pass, which a machine has
-- drawn, and in a settled walk it is the plain picture too
pub record IsWritten (drawn : PictureDrawn) (g : WalkGiven) (run : List WalkPass) (picture : ℕ) (bytes : List ℕ) : Type 0 where
  pub samples : List ℕ
  pub encoded : bytes ≡ picture_bytes g.scene.depth g.scene.path.width g.scene.path.height samples
  pub replay : IfSome g.known (λ b. IsRunPicture g.setup run g.scene.depth g.scene.path.width (g.draws.shows g.scene b) picture samples)
  pub plain : g.setup.mode ≡ Settled
      → IfSome g.known (λ b. IsPictureOf g.scene.depth g.scene.path.width g.scene.path.height (λ x y. g.draws.whole g.scene b picture x y) samples)
  pub from_draws : AreFinalRows drawn g run picture samples

-- the bytes of the first pictures of a run, the newest first
abbrev pub AreWritten : PictureDrawn → WalkGiven → List WalkPass → List (List ℕ) → Type 0
AreWritten drawn g run [] = Unit {0}
AreWritten drawn g run (bytes ∷ pictures) = AreWritten drawn g run pictures × IsWritten drawn g run (length pictures) bytes
