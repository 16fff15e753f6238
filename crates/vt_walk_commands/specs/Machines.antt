-- By what kind of machine a command walks.
use Rattle.vt_walk.specs.Drawings.{Drawing}
use Rattle.vt_walk.specs.MachineTypes.machine.PassMachine.{Ghosts as MachineMeanings}
use Rattle.vt_walk.specs.DrawnBy.{PictureDrawn, IsDrawnBySome}
use Rattle.vt_command_words.specs.Walk.{WalkText}
use Rattle.vt_command_words.specs.declared.machines.MachineChoice.{MachineChoice}
use Rattle.vt_command_words.specs.declared.machines.MachineChoice.TheVariants.{Standard, SwappedTable, SharedRows, Bilinear}

-- a kind of machines: how they draw, and the pictures that one of them has drawn
pub record MachineKind : Type 1 where
  pub draws : Drawing
  pub drawn : PictureDrawn

-- the kind of the machines of a type, by what it means to be one
abbrev pub kind_of : {M F Shared Loader Sampler Streamer : Type 0} → MachineMeanings M F Shared Loader Sampler Streamer → MachineKind
kind_of machine = record { draws = machine.drawing; drawn = IsDrawnBySome machine }

-- the kinds of machines that a run is given, one for each choice that its words have
pub record Machines : Type 1 where
  pub standard : MachineKind
  pub swapped_table : MachineKind
  pub shared_rows : MachineKind
  pub bilinear : MachineKind

-- these kinds, in this order
abbrev pub machines_of : MachineKind → MachineKind → MachineKind → MachineKind → Machines
machines_of standard swapped_table shared_rows bilinear = record {
  standard = standard;
  swapped_table = swapped_table;
  shared_rows = shared_rows;
  bilinear = bilinear;
}

-- the kind of a choice
abbrev pub kind_by : Machines → MachineChoice → MachineKind
kind_by machines Standard = machines.standard
kind_by machines SwappedTable = machines.swapped_table
kind_by machines SharedRows = machines.shared_rows
kind_by machines Bilinear = machines.bilinear

-- the kind that the words of a walk choose
abbrev pub chosen : Machines → WalkText → MachineKind
chosen machines words = kind_by machines words.machine
