pub use Rattle.vt_machine.specs.Crews
pub use Rattle.vt_machine.specs.Drawings
pub use Rattle.vt_machine.specs.Jobs
pub use Rattle.vt_machine.specs.Machines
pub use Rattle.vt_machine.specs.Nearest
pub use Rattle.vt_machine.specs.Outcomes
pub use Rattle.vt_machine.specs.Passes
pub use Rattle.vt_machine.specs.Replays
pub use Rattle.vt_machine.specs.Requests
pub use Rattle.vt_machine.specs.RowOrders
pub use Rattle.vt_machine.specs.Scenes
pub use Rattle.vt_machine.specs.declared as MachineTypes
pub mod Refusals
pub mod Tallies
pub mod Judging
pub mod Reported
