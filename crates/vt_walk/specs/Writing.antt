-- How the writing of a file ends.
use Rattle.std.specs.Prelude.{◌≡◌, ◌⊎◌, ℕ, ◌≤◌, List, take, Result, OnOk, OnErr, IsErrOf, option_map}
use Rattle.vt_outside.specs.Counts.{Rose}
use Rattle.vt_outside.specs.Files.{with_bytes}
use Rattle.vt_outside.specs.declared.answers.OutsideError.{OutsideError}
use Rattle.vt_outside.specs.declared.answers.OutsideError.TheVariants.{Failed}
use Rattle.vt_outside.specs.declared.outside.Folder.{Ghosts as FolderMeanings}

-- a name holds these bytes; or it is as before, or holds a prefix of them, for a cause. Nothing was asked
pub record WritesFile {D F T : Type 0} (d : FolderMeanings D F) (name bytes : List ℕ) (result : Result T OutsideError) (before after : D) : Type 0 where
  pub whole : OnOk result (d.files after ≡ option_map (with_bytes name bytes) (d.files before))
  pub part : OnErr result ((d.files after ≡ d.files before) ⊎ ((k : ℕ) × (d.files after ≡ option_map (with_bytes name (take k bytes)) (d.files before))))
  pub failed : IsErrOf result Failed → Rose (d.faults before) (d.faults after)
  pub asked : d.asked after ≡ d.asked before
  pub faults : d.faults before ≤ d.faults after
