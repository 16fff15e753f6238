-- Which refusals are the outside's.
use Rattle.vt_outside.specs.declared.answers.OutsideError.{OutsideError}
use Rattle.vt_outside.specs.declared.answers.OutsideError.TheVariants as outside_error
use Rattle.vt_tiles.specs.declared.error.StoreError.{StoreError}
use Rattle.vt_tiles.specs.declared.error.StoreError.TheVariants.{Failed, NoMemory}

-- a refusal that the file or the memory makes
abbrev pub IsOutsideRefusal : StoreError → Type 0
IsOutsideRefusal Failed = Unit {0}
IsOutsideRefusal NoMemory = Unit {0}
IsOutsideRefusal _ = ⊥

-- the refusal that a call on the outside makes
abbrev pub refusal_by : OutsideError → StoreError
refusal_by outside_error.Failed = Failed
refusal_by outside_error.NoMemory = NoMemory
