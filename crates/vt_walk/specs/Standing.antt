-- What a run's beginning has left, and what a finished one has left.
use Rattle.std.specs.Prelude.{◌≡◌, ◌⊎◌, ℕ, ◌+◌, ◌<◌, ◌≤◌, List, [], ◌∷◌, length, option_map}
use Rattle.vt_outside.specs.Counts.{RoseBy}
use Rattle.vt_outside.specs.Files.{gained, IsThere}
use Rattle.vt_journal.specs.Changes.{AreLegal, Pinned}
use Rattle.vt_walk_decisions.specs.declared.mode.Mode.TheVariants.{Settled}
use Rattle.vt_walk.specs.DrawnBy.{PictureDrawn}
use Rattle.vt_walk.specs.Fits.{WalkSetup, PictureFits}
use Rattle.vt_walk.specs.Runs.{WalkPass, IsWalkRun, IsWhole, IsFinished, journal_after, run_text, planned_in, lost_in}
use Rattle.vt_walk.specs.Logs.{picture_lines, log_text}
use Rattle.vt_walk.specs.Walks.{WalkGiven}
use Rattle.vt_walk.specs.Folders.{IsApart, with_walk}
use Rattle.vt_walk.specs.States.{WalkState}
use Rattle.vt_walk.specs.Reads.{AreAskedFor, OnKnown}
use Rattle.vt_walk.specs.Written.{AreWritten}

-- a run has reached a picture: all pictures before it are finished, and it has no pass of a later one
abbrev pub HasReached : WalkSetup → List WalkPass → ℕ → Type 0
HasReached w [] picture = picture ≡ 0
HasReached w (p ∷ passes) picture = (picture ≡ p.picture) ⊎ (IsFinished w p passes × (picture ≡ p.picture + 1))

-- the beginning of a run is whole: the journal has its text and the output the lines of the pictures that it has finished, these
-- pictures are whole, and the store was asked for its tiles alone, each once
pub record Stands (drawn : PictureDrawn) (g : WalkGiven) (run : List WalkPass) (pictures : List (List ℕ))
    (first now : WalkState) : Type 0 where
  pub is_run : IsWalkRun g.setup run
  pub reached : HasReached g.setup run (length pictures)
  pub written : AreWritten drawn g run pictures
  pub files : IsApart g.names → now.files ≡ option_map (with_walk g.names (run_text g.setup run) pictures) first.files
  pub there : IsThere now.files g.names.journal
  pub held : now.held ≡ option_map (gained (picture_lines run (length pictures))) first.held
  pub asked : OnKnown (AreAskedFor g.scene.shape g.scene.depth g.setup.pinned (planned_in run) (lost_in run)) first.asked now.asked
  pub faults : RoseBy (length (lost_in run)) first.faults now.faults
  pub out_faults : first.out_faults ≤ now.out_faults

-- a finished walk: the run is whole, there are frames for the pinned pages and, in a settled walk, for each picture's, the journal is
-- legal and keeps the pinned pages, all pictures are whole, journal and output have
-- all their text, the store was asked for the run's tiles alone, each once, and the folder's count rose at least by the lost ones
pub record Finished (drawn : PictureDrawn) (g : WalkGiven) (first now : WalkState) : Type 0 where
  pub run : List WalkPass
  pub is_run : IsWalkRun g.setup run
  pub whole : IsWhole g.setup run
  pub judged : g.setup.pinned ≤ g.setup.frames
  pub fits : g.setup.mode ≡ Settled → (picture : ℕ) → picture < g.setup.pictures → PictureFits g.setup picture
  pub legal : AreLegal g.setup.shape (journal_after g.setup run)
  pub pinned : Pinned g.setup.shape (journal_after g.setup run) g.setup.pinned
  pub pictures : List (List ℕ)
  pub all : length pictures ≡ g.setup.pictures
  pub written : AreWritten drawn g run pictures
  pub files : IsApart g.names → now.files ≡ option_map (with_walk g.names (run_text g.setup run) pictures) first.files
  pub held : now.held ≡ option_map (gained (log_text g.setup run)) first.held
  pub asked : OnKnown (AreAskedFor g.scene.shape g.scene.depth g.setup.pinned (planned_in run) (lost_in run)) first.asked now.asked
  pub faults : RoseBy (length (lost_in run)) first.faults now.faults
