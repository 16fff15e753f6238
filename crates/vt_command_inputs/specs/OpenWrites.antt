-- What a command writes while the file of its input is open.
use Rattle.std.specs.Prelude.{◌≡◌, ◌⊎◌, ℕ, ◌≤◌, List, ◌++◌, option_map, Result, Err, OnOk, OnErr}
use Rattle.vt_outside.specs.Counts.{Rose}
use Rattle.vt_outside.specs.Files.{with_places}
use Rattle.vt_outside.specs.declared.place.Place.{Place}
use Rattle.vt_outside.specs.declared.answers.OutsideError.{OutsideError}
use Rattle.vt_outside.specs.declared.answers.OutsideError.TheVariants.{Failed}
use Rattle.vt_tiles.specs.Made.{HoldsMade, HoldsMadeFront}
use Rattle.vt_outside.specs.Effects.{FolderEffect}
use Rattle.vt_command_inputs.specs.Reads.{OpenFileState}

-- the name holds what the bytes of an open file make, or a prefix of it; the file was asked for such places, and closed
pub record WritesMade (file : OpenFileState) (made : List ℕ → List ℕ) (Are : List Place → Type 0) (name : List ℕ) (p : FolderEffect)
    (result : Result (Unit {0}) OutsideError) : Type 0 where
  pub whole : OnOk result (HoldsMade file.bytes made name p.before.files p.after.files)
  pub part : OnErr result ((p.after.files ≡ p.before.files) ⊎ HoldsMadeFront file.bytes made name p.before.files p.after.files)
  pub places : List Place
  pub are : Are places
  pub asked : p.after.asked ≡ option_map (with_places file.name (option_map (λ old. old ++ places) file.asked)) p.before.asked
  pub failed : result ≡ Err Failed → Rose p.before.faults p.after.faults
  pub faults : p.before.faults ≤ p.after.faults
