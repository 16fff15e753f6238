-- How many passes and reads of tiles a whole run has.
use Rattle.std.specs.Prelude.{◌≡◌, List, length}
use Rattle.vt_walk.specs.declared.walk_steps.Walked.{Walked}
use Rattle.vt_walk.specs.Fits.{WalkSetup}
use Rattle.vt_walk.specs.Runs.{WalkPass, IsWalkRun, IsWhole}
use Rattle.vt_walk.specs.Logs.{reads_of}

-- a whole run has so many passes and asks for so many tiles; a settled walk has one such pair of numbers (law whole_runs_count_alike)
pub record HasCounts (w : WalkSetup) (walked : Walked) : Type 0 where
  pub run : List WalkPass
  pub is_run : IsWalkRun w run
  pub whole : IsWhole w run
  pub passes : walked.passes ≡ length run
  pub reads : walked.reads ≡ reads_of w run
