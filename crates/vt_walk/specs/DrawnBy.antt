-- By which machine a picture was drawn.
use Rattle.std.specs.Prelude.{◌≡◌, ℕ, Some, List, [], slice_get, slice_index_or}
use Rattle.vt_camera.specs.Paths.{PathView}
use Rattle.vt_journal.specs.declared.changes.RowLine.{RowLine}
use Rattle.vt_walk_decisions.specs.MachineTypes.machine.PassMachine.{Ghosts as MachineMeanings}
use Rattle.vt_walk_decisions.specs.Drawings.{RowRelation}
use Rattle.vt_walk_decisions.specs.Machines.{MachineState}

-- a picture of a path, with a line for each of its rows, as a machine in some state has drawn it
abbrev pub PictureDrawn : Type 1
PictureDrawn = MachineState → PathView → ℕ → List RowLine → Type 0

-- one machine of a kind, which is idle and in this state, has drawn the whole picture: by what it has done each row has its bytes at the version
-- that the row's line names
pub record IsDrawnBySome {M F Shared Loader Sampler Streamer : Type 0} (kind : MachineMeanings M F Shared Loader Sampler Streamer)
    (s : MachineState) (path : PathView) (picture : ℕ) (lines : List RowLine) : Type 0 where
  pub machine : M
  pub idle : kind.is_idle machine
  pub state_is : kind.state machine ≡ s
  pub each : (y : ℕ) (line : RowLine) → slice_get lines y ≡ Some line → kind.drawn machine path picture y line.version (slice_index_or s.rows y [])

-- any row, by any machine
abbrev pub AnyRow : RowRelation
AnyRow path picture y version bytes = Unit {0}
