pub use Rattle.vt_machine.proofs.NearestNotes
pub use Rattle.vt_machine.proofs.Ready
pub use Rattle.vt_machine.proofs.Streaming
pub mod Refilled
pub mod Entries
pub mod Asking
pub mod BatchRounds
